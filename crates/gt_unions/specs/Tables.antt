-- The tables of unions, as they are made; what is found in them is said by the clauses of `Unions`.
use Rattle.std.specs.Prelude.{◌≡◌, ℕ, ◌+◌, ℤ, cond, if◌then◌else◌, List, [], ◌∷◌, Option, Some, None, is_some, map}
use Rattle.std.specs.Ordering.{int_cmp}
use Rattle.std.specs.List.{position_from}
use Rattle.std.specs.BTreeMap.{insert_entry, is_at}
use Rattle.std.specs.Map.{lookup}
use Rattle.gt_types.specs.declared.types.TypeId.{TypeId}
use Rattle.gt_types.specs.declared.program.Active.{Active}
use Rattle.gt_types.specs.declared.program.Active.TheVariants.{Tag}
use Rattle.gt_types.specs.declared.program.Field.{Field}
use Rattle.gt_types.specs.declared.program.Structure.{Structure}
use Rattle.gt_types.specs.declared.program.Program.{Program}
use Rattle.gt_types.specs.Unions.{IsCommon}
use Rattle.gt_unions.specs.declared.tables.UnionTable.{UnionTable}
use Rattle.gt_unions.specs.declared.tables.Unions.{Unions}
use Rattle.gt_unions.specs.Members.{is_default, place_of}
use Rattle.gt_unions.specs.Commons.{common_of}

-- tags with the places of members
abbrev pub Tags : Type 0
Tags = List (ℤ × ℕ)

-- the place at a tag
abbrev pub place_at : Tags → ℤ → Option ℕ
place_at tags tag = lookup (is_at (int_cmp tag)) tags

-- the place at the value of a `desc`, where it has one
abbrev pub place_by : Tags → Option ℤ → Option ℕ
place_by tags (Some value) = place_at tags value
place_by tags None = None

-- with a tag, where no member before has it
abbrev pub with_tag : Tags → ℕ → Active → Tags
with_tag tags place (Tag tag) = cond (is_some (place_at tags tag)) tags (insert_entry int_cmp tags tag place)
with_tag tags place active = tags

-- with the tags of members, the first of which has this place
unfoldable pub tags_from : Tags → ℕ → List Field → Tags
tags_from tags place [] = tags
tags_from tags place (f ∷ fs) = tags_from (with_tag tags place f.active) (place + 1) fs

-- the common structure of a structure, where it is a union
abbrev pub table_common : Program → Structure → Option TypeId
table_common program s = if s.is_union then common_of program s else None

-- the table of a structure: the tags of its members, its default member, its common structure, and the first member that is this structure
abbrev pub table_of : Program → Structure → UnionTable
table_of program s = record {
  tags = tags_from [] 0 s.fields;
  other = position_from (λ f. is_default f.active) 0 s.fields;
  common = table_common program s;
  place = place_of s.fields (table_common program s);
}

-- the common structure of a union is first the member at this place
abbrev pub IsCommonPlace : Program → Structure → ℕ → Type 0
IsCommonPlace program s place = (common : TypeId) × IsCommon program s common × (place_of s.fields (Some common) ≡ Some place)

-- the tables of all structures
abbrev pub union_tables : Program → Unions
union_tables program = record { structures = map (table_of program) program.structures }
