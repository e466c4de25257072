-- The text of `tables`: what headers declare, with sizes and places in bytes.
use Rattle.std.specs.Prelude.{◌≡◌, ℕ, Bool, true, false, List, [], ◌∷◌, ◌++◌, Some, codes, length, slice_get, encode_utf8_all}
use Rattle.std.specs.Bool.{Decides}
use Rattle.std.specs.List.{flat_map, join_with_byte}
use Rattle.gt_types.specs.declared.program.Active.{Active}
use Rattle.gt_types.specs.declared.program.Active.TheVariants.{Always, Tag, Other, Never}
use Rattle.gt_types.specs.declared.program.ChainKind.{ChainKind}
use Rattle.gt_types.specs.declared.program.ChainKind.TheVariants.{Next, Prev, Circular}
use Rattle.gt_types.specs.declared.program.Chain.{Chain}
use Rattle.gt_types.specs.declared.program.Field.{Field}
use Rattle.gt_types.specs.declared.program.Structure.{Structure}
use Rattle.gt_types.specs.declared.program.Root.{Root}
use Rattle.gt_types.specs.declared.program.Cache.{Cache}
use Rattle.gt_types.specs.declared.program.Program.{Program}
use Rattle.gt_types.specs.Tails.{IsTailType}
use Rattle.gt_layout.specs.declared.planes.FieldSpot.{FieldSpot}
use Rattle.gt_layout.specs.declared.planes.Plane.{Plane}
use Rattle.gt_layout.specs.declared.planes.Layouts.{Layouts}
use Rattle.gt_digits.specs.Digits.{decimal}
use Rattle.gt_canon.specs.Lines.{line, integer}
use Rattle.gt_canon.specs.Names.{structure_name, names_on}
use Rattle.gt_canon.specs.Canon.{structure_word, deletable_words}
use Rattle.gt_listing.specs.Words.{type_words}

-- ---- structures

-- of a member of a union: its tag, or that it is the default, or that it is never active
abbrev pub active_words : Active → List (List ℕ)
active_words Always = []
active_words (Tag tag) = codes "tag" ∷ integer tag ∷ []
active_words Other = codes "default" ∷ []
active_words Never = codes "never" ∷ []

-- a field: two spaces, the byte at which it begins, its name and its type
abbrev pub field_line : Program → Field → FieldSpot → List ℕ
field_line program f s = line (codes "  " ++ decimal s.offset) (encode_utf8_all f.name ∷ type_words program s.bit f.ty ++ active_words f.active)

abbrev pub field_lines : Program → List Field → List FieldSpot → List ℕ
field_lines program (f ∷ fs) (s ∷ ss) = field_line program f s ++ field_lines program fs ss
field_lines program fs ss = []

-- which chain option it is
abbrev pub chain_word : ChainKind → List ℕ
chain_word Next = codes "chain_next"
chain_word Prev = codes "chain_prev"
chain_word Circular = codes "chain_circular"

-- a chain of a structure with these fields: two spaces, its kind, and the names on its path with dots (46) between them
abbrev pub chain_line : Program → List Field → Chain → List ℕ
chain_line program fields c = line (codes "  " ++ chain_word c.kind) (join_with_byte 46 (names_on program fields c.path) ∷ [])

-- the mark of a tail type
abbrev pub tail_words : Bool → List (List ℕ)
tail_words true = codes "tail" ∷ []
tail_words false = []

-- a structure: its name, size and alignment, and whether it is of a tail type; then its fields; then its chains
abbrev pub structure_lines : Program → Structure → Plane → Bool → List ℕ
structure_lines program s plane tail =
    line (structure_word s.is_union) (encode_utf8_all s.name ∷ codes "size" ∷ decimal plane.size ∷ codes "align" ∷ decimal plane.align ∷ tail_words tail)
    ++ field_lines program s.fields plane.fields
    ++ flat_map (chain_line program s.fields) s.chains

abbrev pub all_structure_lines : Program → List Structure → List Plane → List Bool → List ℕ
all_structure_lines program (s ∷ ss) (plane ∷ planes) (tail ∷ tails) = structure_lines program s plane tail ++ all_structure_lines program ss planes tails
all_structure_lines program ss planes tails = []

-- ---- roots and caches

-- a root: its name, its type, and whether it is deletable
abbrev pub root_line : Program → Root → List ℕ
root_line program r = line (codes "root") (encode_utf8_all r.name ∷ type_words program 0 r.ty ++ deletable_words r.deletable)

-- a cache: its name, and the structures of its keys and values
abbrev pub cache_line : Program → Cache → List ℕ
cache_line program c = line (codes "cache") (encode_utf8_all c.name ∷ structure_name program c.key ∷ structure_name program c.value ∷ [])

-- ---- the program

-- structures, roots and caches, each in the order of declaration; each line ends with a newline
abbrev pub listing : Program → Layouts → List Bool → List ℕ
listing program layouts tails =
    all_structure_lines program program.structures layouts.structures tails
    ++ flat_map (root_line program) program.roots
    ++ flat_map (cache_line program) program.caches

-- each structure has, at its number, whether it is of a tail type
pub record AreTails (program : Program) (tails : List Bool) : Type 0 where
  pub all : length tails ≡ length program.structures
  pub each : (place : ℕ) (tail : Bool) → slice_get tails place ≡ Some tail → Decides tail (IsTailType program (record { 0 = place }))

-- this is the text of `tables`
abbrev pub IsListing : Program → Layouts → List ℕ → Type 0
IsListing program layouts text = (tails : List Bool) × AreTails program tails × (text ≡ listing program layouts tails)
