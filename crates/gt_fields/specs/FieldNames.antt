-- No promise: how the places of fields are found by their names.
use Rattle.std.specs.Prelude.{◌≡◌, ℕ, ◌+◌, List, [], ◌∷◌, map, slice_get}
use Rattle.gt_types.specs.declared.program.Field.{Field}
use Rattle.gt_types.specs.declared.program.Structure.{Structure}
use Rattle.gt_names.specs.declared.tables.Entry.{Entry}
use Rattle.gt_names.specs.Entries.{value_in, with_value}
use Rattle.gt_fields.specs.declared.field_names.FieldNames.{FieldNames}
use Rattle.gt_fields.specs.Places.{bind, place_in}

-- names of fields after others, each with the place of the first of its name; the first field has this place
unfoldable pub fields_from : List (Entry ℕ) → ℕ → List Field → List (Entry ℕ)
fields_from entries place [] = entries
fields_from entries place (f ∷ fs) = fields_from (with_value entries f.name place) (place + 1) fs

abbrev pub names_of : Structure → List (Entry ℕ)
names_of s = fields_from [] 0 s.fields

-- the names of the fields of structures
abbrev pub field_names : List Structure → FieldNames
field_names structures = record { structures = map names_of structures }

-- for each structure each name has the place of the field of this name
pub record AreNamesOf (structures : List Structure) (names : FieldNames) : Type 0 where
  pub places : (id : ℕ) (name : List ℕ) → bind (slice_get names.structures id) (λ entries. value_in entries name) ≡ bind (slice_get structures id) (place_in name)
