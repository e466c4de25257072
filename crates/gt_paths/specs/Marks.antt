-- No promise: marks of structures by their numbers.
use Rattle.std.specs.Prelude.{◌≡◌, ◌⊎◌, ◌<◌, ℕ, nat_eq, Bool, not, List, length, slice_get, Any, Contains, Some}
use Rattle.std.specs.Bool.{Decides}
use Rattle.std.specs.List.{AllZip, list_any}
use Rattle.gt_types.specs.declared.types.TypeId.{TypeId}
use Rattle.gt_types.specs.declared.program.Field.{Field}
use Rattle.gt_types.specs.declared.program.Structure.{Structure}
use Rattle.gt_types.specs.declared.program.Program.{Program}
use Rattle.gt_types.specs.Contains.{ContainsStructure, held_by}
use Rattle.gt_types.specs.Paths.{IsInner, MayStep}
use Rattle.gt_types.specs.Unions.{IsPlainStruct}
use Rattle.gt_unions.specs.Beginnings.{IsPlain}
use Rattle.gt_paths.specs.Numbers.{mark_at, numbered}

-- the inner structures are marked, and no others
abbrev pub AreInner : Program → List Bool → Type 0
AreInner program marks = (node : TypeId) → Decides (mark_at marks node.0) (IsInner program node)

-- the structs are marked that contain no union and no array with a length, and no other structures
abbrev pub ArePlain : Program → List Bool → Type 0
ArePlain program marks = (node : TypeId) → Decides (mark_at marks node.0) (IsPlain program node)

-- each field of a structure is marked if a path may go to it
abbrev pub IsRow : Program → Structure → List Bool → Type 0
IsRow program s row = AllZip (λ f b. Decides b (MayStep program s f)) s.fields row

abbrev pub AreRows : Program → List (List Bool) → Type 0
AreRows program rows = AllZip (IsRow program) program.structures rows

-- a structure is added, if it is no plain struct
pub record AddsOdd (program : Program) (old : List ℕ) (node : TypeId) (new : List ℕ) : Type 0 where
  pub kept : (x : ℕ) → Contains old x → Contains new x
  pub only : (x : ℕ) → Contains new x → Contains old x ⊎ (¬ IsPlainStruct program (numbered x))
  pub odd : IsPlainStruct program node ⊎ Contains new node.0

-- what fields hold is added, if it is no plain struct
pub record AddsHeldOdd (program : Program) (old : List ℕ) (fields : List Field) (new : List ℕ) : Type 0 where
  pub kept : (x : ℕ) → Contains old x → Contains new x
  pub only : (x : ℕ) → Contains new x → Contains old x ⊎ (¬ IsPlainStruct program (numbered x))
  pub odd : (inner : TypeId) → Any (λ f. held_by f.ty ≡ Some inner) fields → IsPlainStruct program inner ⊎ Contains new inner.0

-- what is no plain struct, among the structures and what they contain
pub record AreOdd (program : Program) (odd : List ℕ) : Type 0 where
  pub only : (x : ℕ) → Contains odd x → ¬ IsPlainStruct program (numbered x)
  pub own : (x : ℕ) → x < length program.structures → IsPlainStruct program (numbered x) ⊎ Contains odd x
  pub held : (outer inner : TypeId) → ContainsStructure program outer inner → IsPlainStruct program inner ⊎ Contains odd inner.0

-- of so many numbers those are marked that are not among the ones found
pub record MarksOthers (found : List ℕ) (count : ℕ) (made : List Bool) : Type 0 where
  pub long : length made ≡ count
  pub marks : (k : ℕ) → k < count → slice_get made k ≡ Some (not (list_any (nat_eq k) found))
