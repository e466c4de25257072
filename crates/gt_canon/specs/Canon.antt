-- The canonical text of a program.
use Rattle.std.specs.Prelude.{ℕ, Bool, true, false, List, [], ◌∷◌, ◌++◌, codes, encode_utf8_all}
use Rattle.std.specs.List.{flat_map, join_with_byte}
use Rattle.gt_types.specs.declared.program.Active.{Active}
use Rattle.gt_types.specs.declared.program.Active.TheVariants.{Always, Tag, Other, Never}
use Rattle.gt_types.specs.declared.program.ChainKind.{ChainKind}
use Rattle.gt_types.specs.declared.program.ChainKind.TheVariants.{Next, Prev, Circular}
use Rattle.gt_types.specs.declared.program.Chain.{Chain}
use Rattle.gt_types.specs.declared.program.Field.{Field}
use Rattle.gt_types.specs.declared.program.Structure.{Structure}
use Rattle.gt_types.specs.declared.program.Root.{Root}
use Rattle.gt_types.specs.declared.program.Cache.{Cache}
use Rattle.gt_types.specs.declared.program.Program.{Program}
use Rattle.gt_canon.specs.Lines.{line, integer}
use Rattle.gt_canon.specs.Names.{structure_name, names_on}
use Rattle.gt_canon.specs.Types.{desc_word, type_words}

-- ---- structures

-- when a field is a part of the value
abbrev pub active_words : Active → List (List ℕ)
active_words Always = codes "always" ∷ []
active_words (Tag tag) = codes "tag" ∷ integer tag ∷ []
active_words Other = codes "default" ∷ []
active_words Never = codes "never" ∷ []

-- a field: its name, its type, and when it is a part of the value
abbrev pub field_line : Program → Field → List ℕ
field_line program f = line (codes "field") (encode_utf8_all f.name ∷ type_words program f.ty ++ active_words f.active)

-- which chain option it is
abbrev pub chain_word : ChainKind → List ℕ
chain_word Next = codes "next"
chain_word Prev = codes "prev"
chain_word Circular = codes "circular"

-- a chain of a structure with these fields: its kind, and the names on its path with dots (46) between them
abbrev pub chain_line : Program → List Field → Chain → List ℕ
chain_line program fields c = line (codes "chain") (chain_word c.kind ∷ join_with_byte 46 (names_on program fields c.path) ∷ [])

-- a union or a struct, by its mark
abbrev pub structure_word : Bool → List ℕ
structure_word true = codes "union"
structure_word false = codes "struct"

-- a structure: its name and its `desc`; then its fields; then its chains
abbrev pub structure_lines : Program → Structure → List ℕ
structure_lines program s =
    line (structure_word s.is_union) (encode_utf8_all s.name ∷ desc_word program s.desc ∷ [])
    ++ flat_map (field_line program) s.fields
    ++ flat_map (chain_line program s.fields) s.chains

-- ---- roots and caches

-- the mark of a deletable root
abbrev pub deletable_words : Bool → List (List ℕ)
deletable_words true = codes "deletable" ∷ []
deletable_words false = []

-- a root: its name, its type, and whether it is deletable
abbrev pub root_line : Program → Root → List ℕ
root_line program r = line (codes "root") (encode_utf8_all r.name ∷ type_words program r.ty ++ deletable_words r.deletable)

-- a cache: its name, and the structures of its keys and values
abbrev pub cache_line : Program → Cache → List ℕ
cache_line program c = line (codes "cache") (encode_utf8_all c.name ∷ structure_name program c.key ∷ structure_name program c.value ∷ [])

-- ---- the program

-- the canonical text: a line with the version; then structures, roots and caches, each in the order of declaration
abbrev pub canon_of : Program → List ℕ
canon_of program =
    line (codes "gty") (codes "1" ∷ [])
    ++ flat_map (structure_lines program) program.structures
    ++ flat_map (root_line program) program.roots
    ++ flat_map (cache_line program) program.caches
