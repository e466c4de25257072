-- No promise: the type of the part at a path of values of a type.
use Rattle.std.specs.Prelude.{ℕ, Bool, false, List, [], ◌∷◌, Option, Some, None, slice_get}
use Rattle.gt_types.specs.declared.types.TypeId.{TypeId}
use Rattle.gt_types.specs.declared.types.Ty.{Ty}
use Rattle.gt_types.specs.declared.program.Program.{Program}
use Rattle.gt_tree.specs.Scopes.{◌then◌}
use Rattle.gt_next.specs.Spots.{type_of_part}
use Rattle.gt_next.specs.Leaves.{is_word_type}

-- the type to which places lead from a type on
abbrev pub type_along : Program → Option Ty → List ℕ → Option Ty
type_along program None path = None
type_along program (Some type) [] = Some type
type_along program (Some type) (place ∷ path) = type_along program (type_of_part program type place) path

-- the type of the field at a place of a structure
abbrev pub type_of_field : Program → TypeId → ℕ → Option Ty
type_of_field program node place = slice_get program.structures node.0 then λ s. slice_get s.fields place then λ f. Some f.ty

abbrev pub is_some_word : Option Ty → Bool
is_some_word (Some type) = is_word_type type
is_some_word None = false

-- the type of the root at a place
abbrev pub type_of_root : Program → ℕ → Option Ty
type_of_root program place = slice_get program.roots place then λ root. Some root.ty

-- the type to which places lead in the static record
abbrev pub type_in_statics : Program → List ℕ → Option Ty
type_in_statics program [] = None
type_in_statics program (place ∷ path) = type_along program (type_of_root program place) path
