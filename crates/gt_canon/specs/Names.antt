-- The names of structures and roots, and of the fields on a path, in UTF-8.
use Rattle.std.specs.Prelude.{ℕ, List, [], ◌∷◌, Option, Some, None, slice_get, encode_utf8_all}
use Rattle.gt_types.specs.declared.types.TypeId.{TypeId}
use Rattle.gt_types.specs.declared.types.Ty.{Ty}
use Rattle.gt_types.specs.declared.types.Ty.TheVariants as ty
use Rattle.gt_types.specs.declared.program.Field.{Field}
use Rattle.gt_types.specs.declared.program.Structure.{Structure}
use Rattle.gt_types.specs.declared.program.Root.{Root}
use Rattle.gt_types.specs.declared.program.Program.{Program}

-- the name of a structure, if there is one
abbrev pub name_if_structure : Option Structure → List ℕ
name_if_structure (Some s) = encode_utf8_all s.name
name_if_structure None = []

-- the name of the structure of this number; empty where there is no such structure
abbrev pub structure_name : Program → TypeId → List ℕ
structure_name program id = name_if_structure (slice_get program.structures id.0)

-- the name of a root, if there is one
abbrev pub name_if_root : Option Root → List ℕ
name_if_root (Some r) = encode_utf8_all r.name
name_if_root None = []

-- the name of the root at this place; empty where there is no such root
abbrev pub root_name : Program → ℕ → List ℕ
root_name program place = name_if_root (slice_get program.roots place)

-- the fields of a structure, if there is one
abbrev pub fields_if_structure : Option Structure → List Field
fields_if_structure (Some s) = s.fields
fields_if_structure None = []

-- the fields of the structure that a type is; another type has none
abbrev pub fields_of_type : Program → Ty → List Field
fields_of_type program (ty.Node id desc) = fields_if_structure (slice_get program.structures id.0)
fields_of_type program type = []

-- the fields of the structure that a field holds by value; no fields where it holds none
abbrev pub fields_inside : Program → Option Field → List Field
fields_inside program (Some f) = fields_of_type program f.ty
fields_inside program None = []

-- the name of a field, if there is one
abbrev pub name_if_field : Option Field → List ℕ
name_if_field (Some f) = encode_utf8_all f.name
name_if_field None = []

-- The names of the fields on a path of places: the first place is one of these fields, each further one a field of the
-- structure that the field before it holds. A place without a field has no text.
abbrev pub names_on : Program → List Field → List ℕ → List (List ℕ)
names_on program fields [] = []
names_on program fields (place ∷ places) = name_if_field (slice_get fields place) ∷ names_on program (fields_inside program (slice_get fields place)) places
