-- What all headers declare: a program, or their first fault.
use Rattle.std.specs.Prelude.{◌⊎◌, ℕ, List}
use Rattle.gt_types.specs.declared.faults.Fault.{Fault}
use Rattle.gt_types.specs.declared.faults.Stop.{Stop}
use Rattle.gt_types.specs.declared.faults.Stop.TheVariants.{Memory, At}
use Rattle.gt_types.specs.declared.program.Program.{Program}
use Rattle.gt_items.specs.declared.items.Items.{Items}
use Rattle.gt_drafts.specs.declared.draft.Draft.{Draft}
use Rattle.gt_resolve.specs.Resolution.{Resolves, HasFirstFault}
use Rattle.gt_rules.specs.Faults.{Declares as DeclaresProgram, IsFirstFault as IsFirstOptionFault}
use Rattle.gt_headers.specs.Reading.{AreRead, IsReadingFault}
use Rattle.gt_headers.specs.Sizes.{IsSizeFault}

-- the names and types of all texts, which have no fault
pub record AreResolved (texts : List (List ℕ)) (draft : Draft) : Type 0 where
  pub files : List Items
  pub are_read : AreRead texts files
  pub resolved : Resolves files draft

-- the texts have this draft, which declares this program, and nothing of it is too large
pub record DeclaresBy (texts : List (List ℕ)) (draft : Draft) (program : Program) : Type 0 where
  pub resolved : AreResolved texts draft
  pub declares : DeclaresProgram draft program
  pub sized : (fault : Fault) → ¬ IsSizeFault resolved.files program fault

-- the texts have no fault, and declare this program
abbrev pub Declares : List (List ℕ) → Program → Type 0
Declares texts program = (draft : Draft) × DeclaresBy texts draft program

-- the program that the texts declare has this fault of its sizes
pub record IsTooLargeAt (texts : List (List ℕ)) (fault : Fault) : Type 0 where
  pub draft : Draft
  pub resolved : AreResolved texts draft
  pub program : Program
  pub declares : DeclaresProgram draft program
  pub first : IsSizeFault resolved.files program fault

-- the first fault: of the reading of a text; or else, where all are read, of names and types; or else of options; or else of sizes
abbrev pub IsFirstFault : List (List ℕ) → Fault → Type 0
IsFirstFault texts fault =
    IsReadingFault texts fault ⊎ ((files : List Items) × AreRead texts files × HasFirstFault files fault)
    ⊎ ((draft : Draft) × AreResolved texts draft × IsFirstOptionFault draft fault) ⊎ IsTooLargeAt texts fault

-- why texts give no program; nothing is said of running out of memory
abbrev pub IsHeaderStop : List (List ℕ) → Stop → Type 0
IsHeaderStop texts Memory = Unit {0}
IsHeaderStop texts (At fault) = IsFirstFault texts fault
