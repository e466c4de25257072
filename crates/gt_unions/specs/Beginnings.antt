-- What structures begin with, and what is inside one, looked at step by step.
use Rattle.std.specs.Prelude.{◌≡◌, ◌≢◌, ◌≤◌, ℕ, ◌-◌, Bool, if◌then◌else◌, List, [], ◌∷◌, Option, Some, None, slice_get, All, Any}
use Rattle.std.specs.Bool.{Decides}
use Rattle.gt_types.specs.declared.types.TypeId.{TypeId}
use Rattle.gt_types.specs.declared.types.Ty.TheVariants as ty
use Rattle.gt_types.specs.declared.program.Field.{Field}
use Rattle.gt_types.specs.declared.program.Structure.{Structure}
use Rattle.gt_types.specs.declared.program.Program.{Program}
use Rattle.gt_types.specs.Contains.{Nests, ContainsAtDepth, held_by, itself}
use Rattle.gt_types.specs.Unions.{may_be_active, BeginsWith, IsPlainStruct}

-- ---- beginnings

-- a structure is another, or begins with it
abbrev pub Begins : Program → TypeId → TypeId → Type 0
Begins program outer node = BeginsWith program (ty.Node outer None) node

-- the structure that the first of fields is
abbrev pub first_structure : List Field → Option TypeId
first_structure [] = None
first_structure (f ∷ fs) = itself f.ty

abbrev pub first_inside : Option Structure → Option TypeId
first_inside (Some s) = if s.is_union then None else first_structure s.fields
first_inside None = None

-- the structure that is the first field of a struct
abbrev pub first_of : Program → TypeId → Option TypeId
first_of program node = first_inside (slice_get program.structures node.0)

-- ---- plain structs

-- a structure, and all that it contains, are structs that end in no array with a length
abbrev pub IsPlain : Program → TypeId → Type 0
IsPlain program node = IsPlainStruct program node × ((inner : TypeId) → ContainsAtDepth program node inner → IsPlainStruct program inner)

-- what a field holds is such a struct
abbrev pub HoldsPlain : Program → Field → Type 0
HoldsPlain program f = (next : TypeId) → held_by f.ty ≡ Some next → IsPlain program next

-- structures nest at most so deep inside one
abbrev pub IsShallow : Program → ℕ → TypeId → Type 0
IsShallow program depth node = (n : ℕ) (inner : TypeId) → Nests program n node inner → n ≤ depth

-- so inside what a field holds, and this is one of them
abbrev pub HoldsShallow : Program → ℕ → Field → Type 0
HoldsShallow program depth f = (next : TypeId) → held_by f.ty ≡ Some next → (depth ≢ 0) × IsShallow program (depth - 1) next

-- what is noted of structures is so: whether they are plain
abbrev pub AreKnown : Program → List (Option Bool) → Type 0
AreKnown program known = (node : TypeId) (plain : Bool) → slice_get known node.0 ≡ Some (Some plain) → Decides plain (IsPlain program node)

-- ---- members

-- the structure that a member is, where it may be active
abbrev pub active_structure : Field → Option TypeId
active_structure f = if may_be_active f.active then itself f.ty else None

-- a member that may be active and is a structure begins with this one
abbrev pub BeginsIfActive : Program → TypeId → Field → Type 0
BeginsIfActive program node f = (outer : TypeId) → active_structure f ≡ Some outer → Begins program outer node

-- What is found among members, all of which begin with this structure: nothing, and none of them is it; or one which begins
-- with it, and is it where some member is.
abbrev pub IsFoundAmong : Program → TypeId → List Field → Option TypeId → Type 0
IsFoundAmong program node fields None = All (λ f. active_structure f ≢ Some node) fields
IsFoundAmong program node fields (Some found) = Begins program found node × (Any (λ f. active_structure f ≡ Some node) fields → found ≡ node)
