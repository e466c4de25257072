-- With what the members of a union begin, and where paths may go in it.
use Rattle.std.proofs.Common.{◌≡◌, ℕ, ◌+◌, ◌<◌, ◌≤◌, Bool, true, false, List, [], ◌∷◌, length, get_or, take, Some, None, refl, sym, ap, subst, ◌∙◌}
use Rattle.std.specs.Prelude.{All, Contains}
use Rattle.std.specs.Bool.{Decides}
use Rattle.std.proofs.lemmas.Bool.Decides.{not_from_Decides}
use Rattle.std.proofs.lemmas.List.{take_all, take_more}
use Rattle.std.proofs.lemmas.List.Elements.{All-head, All-more, All-nil}
use Rattle.gt_types.specs.declared.types.TypeId.{TypeId}
use Rattle.gt_types.specs.declared.program.Field.{Field}
use Rattle.gt_types.specs.declared.program.Structure.{Structure}
use Rattle.gt_types.specs.declared.program.Program.{Program}
use Rattle.gt_types.specs.Contains.{itself}
use Rattle.gt_types.specs.Paths.{MayStep}
use Rattle.gt_types.specs.Unions.{IsCommon, is_it, may_be_active}
use Rattle.gt_unions.specs.Beginnings.{Begins, IsPlain, first_of}
use Rattle.gt_paths.specs.declared.commons.Start.{Start}
use Rattle.gt_paths.specs.declared.commons.Start.TheVariants.{Free, From, Apart}
use Rattle.gt_paths.specs.Starts.{AreJoined, BegunBy, BothBegin, IsStartOf, NeverMeet, StartsNext, StartsToo, StartsWith}
use Rattle.gt_paths.proofs.Walks.{all_of_first, all_of_second}
use Rattle.gt_paths.proofs.Nodes.{itself-node}
use Rattle.gt_paths.proofs.Trails.{Barren, begins_before, begins_next, begins_then, is_structure, of_itself, to_itself}

-- ---- one structure

-- both begin with a structure, or neither
abbrev pub Alike : Program → TypeId → TypeId → TypeId → Type 0
Alike program node outer at = (Begins program outer node → Begins program at node) × (Begins program at node → Begins program outer node)

pub alike_more : (program : Program) (outer at next node : TypeId) → ¬ (at ≡ node) → first_of program at ≡ Some next → Alike program node outer at → Alike program node outer next
alike_more program outer at next node other e (to, from) =
    (λ begins. begins_next program at next node other e (to begins), λ begins. from (begins_before program at next node e begins))

pub it_begins : (program : Program) (outer at node : TypeId) → at ≡ node → Alike program node outer at → Decides true (Begins program outer node)
it_begins program outer at node same (to, from) = (λ _. from (subst (λ (n : TypeId). Begins program at n) same is_it), λ _. refl)

pub barren_ends : (program : Program) (outer at node : TypeId) → Barren program (λ x. x ≡ node) at → Alike program node outer at → Decides false (Begins program outer node)
barren_ends program outer at node barren (to, from) = (λ never. cc, λ begins. absurd (barren node refl (to begins)))

-- ---- two structures

-- the first begins with this one, which begins with all that both begin with
pub record Joining (program : Program) (a b at : TypeId) : Type 0 where
  pub begun : Begins program a at
  pub both : (node : TypeId) → BothBegin program a b node → Begins program at node

pub joining : (program : Program) (a b : TypeId) → Joining program a b a
joining program a b = record { begun = is_it; both = λ node both. both.0 }

pub joining_more : (program : Program) (a b at next : TypeId) → ¬ Begins program b at → first_of program at ≡ Some next → Joining program a b at → Joining program a b next
joining_more program a b at next fails e so_far = record {
  begun = begins_then program next so_far.begun (begins_before program at next next e is_it);
  both = λ node both.
      begins_next program at next node (λ same. fails (subst (λ (n : TypeId). Begins program b n) (sym same) both.1)) e (so_far.both node both);
}

pub meet_at : (program : Program) (a b at : TypeId) → Begins program b at → Joining program a b at → AreJoined program a b at
meet_at program a b at begins so_far node =
    (so_far.both node, λ on. (begins_then program node so_far.begun on, begins_then program node begins on))

pub never_meet : (program : Program) (a b at : TypeId) → Barren program (Begins program b) at → Joining program a b at → NeverMeet program a b
never_meet program a b at barren so_far node both = barren node both.1 (so_far.both node both)

-- ---- members

pub from_own : (program : Program) (own : TypeId) → StartsToo program Free own (From own)
from_own program own node = (λ both. both.1, λ begins. (tt, begins))

pub apart_too : (program : Program) (own : TypeId) → StartsToo program Apart own Apart
apart_too program own node = (λ both. both.0, λ never. absurd never)

pub from_meet : (program : Program) (from own meet : TypeId) → AreJoined program from own meet → StartsToo program (From from) own (From meet)
from_meet program from own meet joined = joined

pub from_none : (program : Program) (from own : TypeId) → NeverMeet program from own → StartsToo program (From from) own Apart
from_none program from own never node = (λ both. never node both, λ none. absurd none)

pub never_active : (program : Program) (start : Start) (f : Field) → may_be_active f.active ≡ false → StartsNext program start f start
never_active program start f fails node = (λ both. both.0, λ starts. (starts, λ active. let never : false ≡ true = sym fails ∙ active in absurd (cc)))

pub structure_next : (program : Program) (old new : Start) (f : Field) (own : TypeId) → may_be_active f.active ≡ true → itself f.ty ≡ Some own → StartsToo program old own new → StartsNext program old f new
structure_next program old new f own active is too node = (
  λ both. (too node).0 (both.0, to_itself program f.ty own node is (both.1 active)),
  λ starts. let both = (too node).1 starts in (both.0, λ _. of_itself program f.ty own node is both.1),
)

pub other_next : (program : Program) (old : Start) (f : Field) → may_be_active f.active ≡ true → itself f.ty ≡ None → StartsNext program old f Apart
other_next program old f active none node = (
  λ both. let found = is_structure program (both.1 active) in let never : None ≡ Some found.0 = sym none ∙ found.1 in absurd (cc),
  λ never. absurd never,
)

pub no_members : (program : Program) → IsStartOf program [] Free
no_members program node = (λ _. tt, λ _. All-nil (BegunBy program node))

all_split : {X : Type 0} (P : X → Type 0) (xs : List X) (i : ℕ) (x : X) → i < length xs → x ≡ get_or xs i x → All P (take (i + 1) xs) → All P (take i xs) × P x
all_split {X} P xs i x within is all =
    let parts = subst (All P) (take_more xs i x within) all in
    (all_of_first P (take i xs) (get_or xs i x ∷ []) parts, subst P (sym is) (All-head P (get_or xs i x) [] (all_of_second P (take i xs) (get_or xs i x ∷ []) parts)))

pub next_member : (program : Program) (fields : List Field) (i : ℕ) (f : Field) (old new : Start) → i < length fields → f ≡ get_or fields i f → IsStartOf program (take i fields) old
    → StartsNext program old f new → IsStartOf program (take (i + 1) fields) new
next_member program fields i f old new within is so_far next node = (
  λ all.
      let split = all_split (BegunBy program node) fields i f within is all in
      (next node).0 ((so_far node).0 split.0, split.1),
  λ starts.
      let both = (next node).1 starts in
      All-more (BegunBy program node) fields i f within ((so_far node).1 both.0) (subst (BegunBy program node) is both.1),
)

pub all_members : (program : Program) (fields : List Field) (i : ℕ) (start : Start) → length fields ≤ i → IsStartOf program (take i fields) start → IsStartOf program fields start
all_members program fields i start past so_far = subst (λ (xs : List Field). IsStartOf program xs start) (take_all i fields past) so_far

-- ---- steps

pub free_step : (program : Program) (s : Structure) (f : Field) → s.is_union ≡ false → Contains s.fields f → Decides true (MayStep program s f)
free_step program s f struct' there = (λ _. record { there = there; common = λ union. let never : false ≡ true = sym struct' ∙ union in absurd (cc) }, λ _. refl)

pub no_step : (program : Program) (s : Structure) (f : Field) → s.is_union ≡ true → itself f.ty ≡ None → Decides false (MayStep program s f)
no_step program s f union none = (
  λ never. cc,
  λ may.
      let common = may.common union in
      let never : None ≡ Some common.0 = sym none ∙ ap itself common.2 in cc,
)

same_node : (a b : TypeId) → Some a ≡ Some b → a ≡ b
same_node a b e = cc

is_common : (program : Program) (s : Structure) (f : Field) (node : TypeId) (start : Start) → s.is_union ≡ true → Contains s.fields f → itself f.ty ≡ Some node → IsStartOf program s.fields start
    → IsPlain program node → StartsWith program start node → IsCommon program s node
is_common program s f node start union there is begun plain starts =
    let found = itself-node f.ty node is in
    record { union = union; member = (f, found.0, there, found.1); plain = plain.0; plain_inside = plain.1; begun = (begun node).1 starts }

pub plain_fails : (program : Program) (s : Structure) (f : Field) (node : TypeId) (a : Bool) → s.is_union ≡ true → itself f.ty ≡ Some node → Decides a (IsPlain program node) → a ≡ false
    → Decides false (MayStep program s f)
plain_fails program s f node a union is plain fails = (
  λ never. cc,
  λ may.
      let common = may.common union in
      let same = same_node common.0 node (sym (ap itself common.2) ∙ is) in
      let it = subst (IsCommon program s) same common.3 in
      absurd (not_from_Decides a plain fails (it.plain, it.plain_inside)),
)

pub plain_holds : (program : Program) (s : Structure) (f : Field) (node : TypeId) (start : Start) (a b : Bool) → s.is_union ≡ true → Contains s.fields f → itself f.ty ≡ Some node
    → IsStartOf program s.fields start → Decides a (IsPlain program node) → a ≡ true → Decides b (StartsWith program start node) → Decides b (MayStep program s f)
plain_holds program s f node start a b union there is begun plain holds starts = (
  λ e.
      let found = itself-node f.ty node is in
      record {
        there = there;
        common = λ _. (node, found.0, found.1, is_common program s f node start union there is begun (plain.0 holds) (starts.0 e));
      },
  λ may.
      let common = may.common union in
      let same = same_node common.0 node (sym (ap itself common.2) ∙ is) in
      let it = subst (IsCommon program s) same common.3 in
      starts.1 ((begun node).0 it.begun),
)
