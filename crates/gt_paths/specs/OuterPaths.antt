-- No promise: from which structures paths lead that begin around a structure.
use Rattle.std.specs.Prelude.{◌≡◌, ◌≢◌, ◌↔◌, ℕ, Bool, List, [], ◌++◌, Option, None, Some, All, Contains}
use Rattle.std.specs.Bool.{Decides}
use Rattle.std.specs.BTreeMap.{BTreeMap, get}
use Rattle.std.specs.Cmp.Lexicographic.{slice_cmp}
use Rattle.std.specs.Ordering.{nat_cmp}
use Rattle.std.specs.declared.cmp.Ordering.{Ordering}
use Rattle.gt_types.specs.declared.types.TypeId.{TypeId}
use Rattle.gt_types.specs.declared.program.Program.{Program}
use Rattle.gt_types.specs.Paths.{Inner, LeadsToNumber, IsOutermostBeside}
use Rattle.gt_paths.specs.declared.outer_paths.Answers.{Answers}
use Rattle.gt_paths.specs.Numbers.{numbered}

-- a path leads to a number from each of these structures
abbrev pub AllLead : Program → List ℕ → List (List ℕ) → Type 0
AllLead program starts steps = All (λ start. LeadsToNumber program (numbered start) steps) starts

-- the order of paths
abbrev pub path_cmp : List (List ℕ) → List (List ℕ) → Ordering
path_cmp = slice_cmp (slice_cmp nat_cmp)

-- each answer for a path says whether it does
abbrev pub ArePathAnswers : Program → List ℕ → BTreeMap (List (List ℕ)) Bool → Type 0
ArePathAnswers program starts paths = (steps : List (List ℕ)) (leads : Bool) → get path_cmp paths steps ≡ Some leads → Decides leads (AllLead program starts steps)

-- the rest of a path leads to a number from each structure that its prefix reaches, if each start reaches one
abbrev pub RestLeads : Program → Option (List ℕ) → List (List ℕ) → Type 0
RestLeads program (Some reached) rest = AllLead program reached rest
RestLeads program None rest = ⊥

-- these are the structures by value that the prefix of a path reaches from the starts, or it reaches none from one of them
abbrev pub AreReached : Program → List ℕ → List (List ℕ) → Option (List ℕ) → Type 0
AreReached program starts prefix reached = (rest : List (List ℕ)) → rest ≢ [] → AllLead program starts (prefix ++ rest) ↔ RestLeads program reached rest

-- what is kept for prefixes is what they reach
abbrev pub ArePrefixes : Program → List ℕ → BTreeMap (List (List ℕ)) (Option (List ℕ)) → Type 0
ArePrefixes program starts prefixes = (prefix : List (List ℕ)) (reached : Option (List ℕ)) → get path_cmp prefixes prefix ≡ Some reached → AreReached program starts prefix reached

-- what is kept of paths that begin at these structures is right
pub record AreAnswers (program : Program) (starts : List ℕ) (answers : Answers) : Type 0 where
  pub paths : ArePathAnswers program starts answers.paths
  pub prefixes : ArePrefixes program starts answers.prefixes

-- the structures that are outermost for one, and no others
pub record AreStarts (inner : Inner) (program : Program) (node : TypeId) (starts : List ℕ) : Type 0 where
  pub all : (outer : TypeId) → IsOutermostBeside inner program node outer → Contains starts outer.0
  pub only : (start : ℕ) → Contains starts start → IsOutermostBeside inner program node (numbered start)
