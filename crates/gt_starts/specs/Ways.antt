-- The names of the fields on the way from a structure to a part of it.
use Rattle.std.specs.Prelude.{◌≡◌, ℕ, Bool, false, if◌then◌else◌, List, [], ◌∷◌, ◌++◌, Option, Some, None, slice_get}
use Rattle.gt_types.specs.declared.types.TypeId.{TypeId}
use Rattle.gt_types.specs.declared.types.Ty.{Ty}
use Rattle.gt_types.specs.declared.program.Structure.{Structure}
use Rattle.gt_types.specs.declared.program.Program.{Program}
use Rattle.gt_types.specs.Contains.{itself}
use Rattle.gt_tree.specs.Scopes.{◌then◌}

-- the type of the field at a place of a structure
abbrev pub field_at : Program → TypeId → ℕ → Option Ty
field_at program node i = slice_get program.structures node.0 then λ s. slice_get s.fields i then λ f. Some f.ty

-- the name of the field at a place of a structure
abbrev pub name_at : Program → TypeId → ℕ → Option (List ℕ)
name_at program node i = slice_get program.structures node.0 then λ s. slice_get s.fields i then λ f. Some f.name

-- the structure by value at a place of a structure
abbrev pub inner_at : Program → TypeId → ℕ → Option TypeId
inner_at program node i = field_at program node i then itself

abbrev pub is_union_in : Option Structure → Bool
is_union_in (Some s) = s.is_union
is_union_in None = false

-- a structure is a union
abbrev pub is_union : Program → TypeId → Bool
is_union program node = is_union_in (slice_get program.structures node.0)

-- what is known of the way from a structure to a part of it: the names of all fields on it, or only of the first of them, up to a union
pub data Way : Type 0 where
  known : List (List ℕ) → Way
  hidden : List (List ℕ) → Way

-- the way with a field of this name before it; where there is no field, nothing is known
abbrev pub after_name : Option (List ℕ) → Way → Way
after_name (Some name) (known names) = known (name ∷ names)
after_name (Some name) (hidden names) = hidden (name ∷ names)
after_name None way = hidden []

-- The way from a structure to a part of it: the names of the fields on it, as far as these hold structures by value. Where it leads into a
-- union it is known up to there, since what a path reads in a union may lie in each of its members; so it is where a field is missing.
abbrev pub way_to : Program → Option TypeId → List ℕ → Way
way_to program (Some node) (i ∷ path) = if is_union program node then hidden [] else after_name (name_at program node i) (way_to program (inner_at program node i) path)
way_to program begin path = known []

-- a path ends in this name
abbrev pub EndsIn : List ℕ → List (List ℕ) → Type 0
EndsIn last names = (front : List (List ℕ)) × (names ≡ front ++ last ∷ [])

-- A path of names may lead this way to a leaf of this name: it is the names on the way; or, where a union lies on it, it begins with the
-- names up to there, and goes on to end in the leaf's name.
abbrev pub LeadsAlong : Way → List ℕ → List (List ℕ) → Type 0
LeadsAlong (known way) last names = names ≡ way
LeadsAlong (hidden front) last names = (rest : List (List ℕ)) × (names ≡ front ++ rest) × EndsIn last rest
