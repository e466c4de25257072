-- What names of types mean: tags, and names of typedefs, which are followed.
use Rattle.std.specs.Prelude.{◌≡◌, ℕ, zero, suc, ◌⊎◌, Bool, true, false, if◌then◌else◌, List, [], ◌∷◌, map, All, Option, Some, None, find, option_map, is_some}
use Rattle.std.specs.Option.{option_map_or}
use Rattle.std.specs.Str.{bytes_eq}
use Rattle.gt_types.specs.declared.types.Scalar.TheVariants as scalar
use Rattle.gt_types.specs.declared.types.Width.TheVariants.{W4}
use Rattle.gt_items.specs.declared.items.Keyword.{Keyword}
use Rattle.gt_items.specs.declared.items.Keyword.TheVariants as keyword
use Rattle.gt_items.specs.declared.items.Stars.{Stars}
use Rattle.gt_items.specs.declared.items.Stars.TheVariants.{Zero, One, Two, More}
use Rattle.gt_scope.specs.declared.types.Spelled.{Spelled}
use Rattle.gt_scope.specs.declared.types.Spelled.TheVariants as spelled
use Rattle.gt_drafts.specs.declared.types.BaseType.{BaseType}
use Rattle.gt_drafts.specs.declared.types.BaseType.TheVariants.{Number, Float, Double, Sizeless, Structure, Undefined, Unknown}
use Rattle.gt_drafts.specs.declared.types.Resolved.{Resolved}
use Rattle.gt_scope.specs.declared.meaning.TypedefMeaning.{TypedefMeaning}
use Rattle.gt_scope.specs.declared.declaration.Declaration.{Declaration}
use Rattle.gt_scope.specs.declared.declaration.What.{What}
use Rattle.gt_scope.specs.declared.declaration.What.TheVariants as what
use Rattle.gt_names.specs.Lists.{with_name}
use Rattle.gt_scope.specs.Declarations.{first_named}

-- ---- tags

-- structures and enums have tags
abbrev pub as_tag : What → Option What
as_tag (what.Structure is_union id) = Some (what.Structure is_union id)
as_tag (what.Enum is_signed) = Some (what.Enum is_signed)
as_tag w = None

-- what the first definition of a tag defines
abbrev pub tag_in : List Declaration → List ℕ → Option What
tag_in ds word = first_named as_tag word ds

-- an enum is a number of four bytes
abbrev pub enum_type : Bool → BaseType
enum_type is_signed = Number (scalar.Int W4 is_signed) false

-- whether the keyword is that of the definition
abbrev pub is_keyword_of : Keyword → What → Bool
is_keyword_of keyword.Struct (what.Structure false id) = true
is_keyword_of keyword.Union (what.Structure true id) = true
is_keyword_of keyword.Enum (what.Enum is_signed) = true
is_keyword_of keyword w = false

-- what is defined
abbrev pub defined_type : What → BaseType
defined_type (what.Structure is_union id) = Structure id
defined_type (what.Enum is_signed) = enum_type is_signed
defined_type w = Unknown

-- a keyword and a tag: what the tag's definition defines, where it has this keyword
abbrev pub tagged_type : Keyword → List ℕ → Option What → BaseType
tagged_type keyword tag None = Undefined keyword tag
tagged_type keyword tag (Some w) = if is_keyword_of keyword w then defined_type w else Undefined keyword tag

-- a name alone finds any tag
abbrev pub type_of_tag : Option What → BaseType
type_of_tag found = option_map_or defined_type found Unknown

-- a type, where a name is no typedef
unfoldable pub plain_type : List Declaration → Spelled → BaseType
plain_type ds (spelled.Number scalar is_char) = Number scalar is_char
plain_type ds spelled.Float = Float
plain_type ds spelled.Double = Double
plain_type ds spelled.Sizeless = Sizeless
plain_type ds (spelled.Tagged keyword tag) = tagged_type keyword tag (tag_in ds tag)
plain_type ds (spelled.Named word) = type_of_tag (tag_in ds word)

-- ---- typedefs

-- the type and the stars of a typedef
abbrev pub as_typedef : What → Option (Spelled × Stars)
as_typedef (what.Typedef ty stars) = Some (ty, stars)
as_typedef w = None

-- the first typedef of a name
abbrev pub typedef_in : List Declaration → List ℕ → Option (Spelled × Stars)
typedef_in ds word = first_named as_typedef word ds

-- numbers, structures and undefined structures keep their meaning in a typedef; other types become opaque
abbrev pub is_transparent : BaseType → Bool
is_transparent (Number scalar is_char) = true
is_transparent (Structure id) = true
is_transparent (Undefined keyword.Struct tag) = true
is_transparent (Undefined keyword.Union tag) = true
is_transparent base = false

-- the meaning of an opaque name
abbrev pub opaque : Resolved
opaque = record { base = Sizeless; stars = Zero }

-- a typedef of a type is that type, where it is transparent
abbrev pub transparent : BaseType → Stars → Resolved
transparent base stars = if is_transparent base then record { base = base; stars = stars } else opaque

-- a typedef of what has a meaning, after stars: a pointer to a pointer is opaque
unfoldable pub following : Stars → BaseType → Stars → Resolved
following Zero base stars = transparent base stars
following One base Zero = transparent base One
following stars base others = opaque

abbrev pub means_after : Stars → Resolved → Resolved
means_after stars m = following stars m.base m.stars

-- what a type means, by the meanings of names of typedefs
abbrev pub follow_type : List Declaration → (List ℕ → Option Resolved) → Spelled → Option Resolved
follow_type ds deeper (spelled.Named word) =
    if is_some (typedef_in ds word) then deeper word else Some (record { base = plain_type ds (spelled.Named word); stars = Zero })
follow_type ds deeper ty = Some (record { base = plain_type ds ty; stars = Zero })

-- what a typedef means, by the meanings of names of typedefs
abbrev pub follow_typedef : List Declaration → (List ℕ → Option Resolved) → Option (Spelled × Stars) → Option Resolved
follow_typedef ds deeper None = None
follow_typedef ds deeper (Some typedef) = option_map (means_after typedef.1) (follow_type ds deeper typedef.0)

-- The meaning of a name of a typedef that is found within so many steps: of the type after its stars, which may be the name of a
-- typedef again.
unfoldable pub follow : List Declaration → ℕ → List ℕ → Option Resolved
follow ds zero word = None
follow ds (suc steps) word = follow_typedef ds (follow ds steps) (typedef_in ds word)

-- the meaning of a name of a typedef: what following it comes to, and opaque where it comes to no end
abbrev pub IsMeaning : List Declaration → List ℕ → Resolved → Type 0
IsMeaning ds word m = ((steps : ℕ) × (follow ds steps word ≡ Some m)) ⊎ (((steps : ℕ) → follow ds steps word ≡ None) × (m ≡ opaque))

-- the names of typedefs, each once, in the order of their first typedefs, after those that are there
unfoldable pub typedef_names : List (List ℕ) → List Declaration → List (List ℕ)
typedef_names names [] = names
typedef_names names (d ∷ ds) = typedef_names (option_map_or (λ typedef. with_name names d.name.word) (as_typedef d.what) names) ds

-- these are the names of typedefs, each with its meaning
pub record AreTypeNames (ds : List Declaration) (types : List TypedefMeaning) : Type 0 where
  pub names : map (λ t. t.name) types ≡ typedef_names [] ds
  pub meanings : All (λ t. IsMeaning ds t.name t.means) types

-- ---- types

-- the meaning of a name, where it is one of a typedef
abbrev pub meaning_in : List TypedefMeaning → List ℕ → Option Resolved
meaning_in types word = option_map (λ t. t.means) (find (λ t. bytes_eq t.name word) types)

-- stars after stars
abbrev pub more_stars : Stars → Stars → Stars
more_stars Zero stars = stars
more_stars One Zero = One
more_stars One One = Two
more_stars One stars = More
more_stars Two Zero = Two
more_stars Two stars = More
more_stars More stars = More

-- a meaning with stars after it
abbrev pub with_stars : Resolved → Stars → Resolved
with_stars m stars = record { base = m.base; stars = more_stars m.stars stars }

-- a type with stars after it: a name is a typedef's, or else a tag
unfoldable pub resolved_type : List Declaration → List TypedefMeaning → Spelled → Stars → Resolved
resolved_type ds types (spelled.Named word) stars =
    option_map_or (λ m. with_stars m stars) (meaning_in types word) (record { base = plain_type ds (spelled.Named word); stars = stars })
resolved_type ds types ty stars = record { base = plain_type ds ty; stars = stars }
