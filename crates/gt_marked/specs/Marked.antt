-- How marked structures and globals are read.
use Rattle.std.specs.Prelude.{Bool, true, false, if◌then◌else◌, List, [], ◌∷◌, length, codes, Option, Some, None}
use Rattle.std.specs.List.{list_any}
use Rattle.std.specs.Str.{bytes_eq}
use Rattle.gt_search.specs.declared.faults.TheConstants.{UNEXPECTED, UNSUPPORTED, BAD_MARKER_PLACE}
use Rattle.gt_items.specs.declared.items.Name.{Name}
use Rattle.gt_items.specs.declared.items.Item.{Item}
use Rattle.gt_items.specs.declared.items.Item.TheVariants.{Structure, Root, Cache}
use Rattle.gt_items.specs.declared.items.Alias.{Alias}
use Rattle.gt_items.specs.declared.items.RawOption.{RawOption}
use Rattle.gt_items.specs.declared.items.PointedType.{PointedType}
use Rattle.gt_items.specs.declared.items.Keyword.TheVariants.{Struct, Union}
use Rattle.gt_search.specs.declared.lexeme.TokenText.{TokenText}
use Rattle.gt_search.specs.declared.lexeme.Bracket.TheVariants.{Brace}
use Rattle.gt_search.specs.declared.lexeme.Lexeme.{Lexeme}
use Rattle.gt_search.specs.declared.lexeme.Lexeme.TheVariants as lexeme
use Rattle.gt_marked.specs.declared.types.Context.TheVariants.{Elsewhere}
use Rattle.gt_search.specs.Lexemes.{name_of}
use Rattle.gt_marked.specs.Outcome.{Outcome, Read, Stops, ◌>>=◌, unexpected}
use Rattle.gt_marked.specs.Markers.{marker_at}
use Rattle.gt_marked.specs.Types.{without_qualifiers, stars_at, name_at, type_at}
use Rattle.gt_marked.specs.Groups.{bounds_from}
use Rattle.gt_marked.specs.Fields.{star_at, fields_from}

-- a token that has to stand at the front, and those after it
abbrev pub semicolon_at : List Lexeme → Outcome (Unit {0})
semicolon_at (lexeme.Semicolon s ∷ ts) = Read tt ts
semicolon_at ts = unexpected ts

abbrev pub comma_at : List Lexeme → Outcome (Unit {0})
comma_at (lexeme.Comma s ∷ ts) = Read tt ts
comma_at ts = unexpected ts

abbrev pub greater_at : List Lexeme → Outcome (Unit {0})
greater_at (lexeme.Greater s ∷ ts) = Read tt ts
greater_at ts = unexpected ts

-- the brace that opens a body; a colon would begin base classes
abbrev pub open_brace_at : List Lexeme → Outcome (Unit {0})
open_brace_at (lexeme.Open Brace s ∷ ts) = Read tt ts
open_brace_at (lexeme.Colon s ∷ ts) = Stops UNSUPPORTED s.start
open_brace_at ts = unexpected ts

-- a marker after a tag; a colon would begin base classes
unfoldable pub marker_after_tag : List Lexeme → Outcome (List RawOption)
marker_after_tag (lexeme.Colon s ∷ ts) = Stops UNSUPPORTED s.start
marker_after_tag ts = marker_at ts

-- marker NAME | NAME marker
unfoldable pub tag_at : List Lexeme → Outcome (Name × List RawOption)
tag_at (lexeme.Name s ∷ ts) = marker_after_tag ts >>= λ options. Read (name_of s, options.0) options.1
tag_at ts = do
  options ← marker_at ts
  tag ← name_at options.1
  Read (tag.0, options.0) tag.1

-- the name that a typedef declares: {"*"} NAME
unfoldable pub alias_at : List Lexeme → Outcome Alias
alias_at ts = name_at (stars_at ts).1 >>= λ name. Read (record { stars = (stars_at ts).0; name = name.0 }) name.1

-- there is such a name after a structure's body exactly with typedef
unfoldable pub maybe_alias : Bool → List Lexeme → Outcome (Option Alias)
maybe_alias true ts = alias_at ts >>= λ alias. Read (Some alias.0) alias.1
maybe_alias false ts = Read None ts

-- structure := ["typedef"] ("struct" | "union") (marker NAME | NAME marker) "{" field+ "}" [{"*"} NAME] ";", after the keyword
unfoldable pub structure_at : (has_alias is_union : Bool) → List Lexeme → Outcome Item
structure_at has_alias is_union ts = do
  tag ← tag_at ts
  opened ← open_brace_at tag.1
  fields ← fields_from (length opened.1) [] opened.1
  alias ← maybe_alias has_alias fields.1
  ended ← semicolon_at alias.1
  Read (Structure (record { is_union = is_union; tag = tag.0.0; options = tag.0.1; fields = fields.0; alias = alias.0 })) ended.1

-- an initialiser is passed over to the end of the item, or a semicolon ends the global
unfoldable pub initialiser_at : List Lexeme → Outcome (Unit {0})
initialiser_at (lexeme.Equals s ∷ ts) = Read tt []
initialiser_at ts = semicolon_at ts

-- type {"*"} NAME {"[" text "]"} ["=" skipped] ";", after the marker
unfoldable pub root_at : List RawOption → List Lexeme → Outcome Item
root_at options ts = do
  type ← type_at Elsewhere ts
  name ← name_at (stars_at type.1).1
  bounds ← bounds_from (length name.1) [] name.1
  ended ← initialiser_at bounds.1
  Read (Root (record { options = options; ty = type.0; stars = (stars_at type.1).0; name = name.0; bounds = bounds.0 })) ended.1

-- a type and its stars
unfoldable pub pointed_at : List Lexeme → Outcome PointedType
pointed_at ts = type_at Elsewhere ts >>= λ type. Read (record { ty = type.0; stars = (stars_at type.1).0 }) (stars_at type.1).1

-- a third type of the map may be named
unfoldable pub traits_at : List Lexeme → Outcome (Unit {0})
traits_at (lexeme.Comma s ∷ ts) = name_at ts >>= λ name. Read tt name.1
traits_at ts = Read tt ts

-- a map that is no cache is not supported
abbrev pub is_cache : List RawOption → Bool
is_cache options = list_any (λ option. bytes_eq option.name.word (codes "cache")) options

unfoldable pub cache_name_at : List RawOption → List Lexeme → Outcome Name
cache_name_at options ts = name_at ts >>= λ name. if is_cache options then Read name.0 name.1 else Stops UNSUPPORTED name.0.at

-- "<" type {"*"} "," type {"*"} ["," NAME] ">" "*" NAME ";", after the sign "<"
unfoldable pub cache_at : List RawOption → List Lexeme → Outcome Item
cache_at options ts = do
  key ← pointed_at ts
  comma ← comma_at key.1
  value ← pointed_at comma.1
  traits ← traits_at value.1
  closed ← greater_at traits.1
  star ← star_at closed.1
  name ← cache_name_at options (without_qualifiers star.1)
  ended ← semicolon_at name.1
  Read (Cache (record { options = options; key = key.0; value = value.0; name = name.0 })) ended.1

-- what stands after the marker of a global: a map, or a type
unfoldable pub after_marker_at : List RawOption → List Lexeme → Outcome Item
after_marker_at options (lexeme.Name s ∷ lexeme.Less l ∷ ts) =
    if bytes_eq s.word (codes "hash_map") then cache_at options ts else root_at options (lexeme.Name s ∷ lexeme.Less l ∷ ts)
after_marker_at options ts = root_at options ts

-- global := ("static" | "extern") marker .., after the first word
unfoldable pub global_at : List Lexeme → Outcome Item
global_at ts = marker_at ts >>= λ options. after_marker_at options.0 options.1

-- a structure after the word typedef
unfoldable pub typedef_structure_at : List Lexeme → Outcome Item
typedef_structure_at (lexeme.Tag Struct s ∷ ts) = structure_at true false ts
typedef_structure_at (lexeme.Tag Union s ∷ ts) = structure_at true true ts
typedef_structure_at ts = unexpected ts

-- class and template are not supported; namespace may not stand here
abbrev pub reserved_at : TokenText → Outcome Item
reserved_at s = if bytes_eq s.word (codes "namespace") then Stops UNEXPECTED s.start else Stops UNSUPPORTED s.start

-- a marked item
unfoldable pub marked_at : List Lexeme → Outcome Item
marked_at (lexeme.Typedef s ∷ ts) = typedef_structure_at ts
marked_at (lexeme.Tag Struct s ∷ ts) = structure_at false false ts
marked_at (lexeme.Tag Union s ∷ ts) = structure_at false true ts
marked_at (lexeme.Static s ∷ ts) = global_at ts
marked_at (lexeme.Extern s ∷ ts) = global_at ts
marked_at (lexeme.Reserved s ∷ ts) = reserved_at s
marked_at (lexeme.Gty s ∷ ts) = Stops BAD_MARKER_PLACE s.start
marked_at ts = unexpected ts
