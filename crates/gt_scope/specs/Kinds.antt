-- What types are by numbers alone, so that two of them are held against one another without their names.
use Rattle.std.specs.Prelude.{◌≡◌, ℕ, Bool, true, false, ◌&&◌, ◌==◌, if◌then◌else◌, List, map, Option, Some, None, position}
use Rattle.std.specs.Str.{bytes_eq}
use Rattle.gt_items.specs.declared.items.Keyword.{Keyword}
use Rattle.gt_items.specs.declared.items.Keyword.TheVariants as keyword
use Rattle.gt_items.specs.declared.items.Stars.{Stars}
use Rattle.gt_items.specs.declared.items.Stars.TheVariants.{Zero, One}
use Rattle.gt_drafts.specs.declared.types.BaseType.{BaseType}
use Rattle.gt_drafts.specs.declared.types.BaseType.TheVariants as base
use Rattle.gt_drafts.specs.declared.types.Resolved.{Resolved}
use Rattle.gt_drafts.specs.Sameness.{same_bool, same_keyword, same_scalar}
use Rattle.gt_names.specs.declared.tables.Entry.{Entry}
use Rattle.gt_scope.specs.declared.kinds.Kind.{Kind}
use Rattle.gt_scope.specs.declared.kinds.Kind.TheVariants.{Number, Float, Double, Sizeless, Structure, Undefined, Unknown}
use Rattle.gt_scope.specs.declared.kinds.Meant.{Meant}

-- kinds that a typedef keeps
abbrev pub is_kept : Kind → Bool
is_kept (Number scalar is_char) = true
is_kept (Structure id) = true
is_kept (Undefined keyword.Struct tag) = true
is_kept (Undefined keyword.Union tag) = true
is_kept kind = false

-- the kind of an opaque name
abbrev pub unkept : Meant
unkept = record { kind = Sizeless; stars = Zero }

abbrev pub kept : Kind → Stars → Meant
kept kind stars = if is_kept kind then record { kind = kind; stars = stars } else unkept

-- a typedef of what has a meaning, after stars
unfoldable pub kept_after : Stars → Kind → Stars → Meant
kept_after Zero kind stars = kept kind stars
kept_after One kind Zero = kept kind One
kept_after stars kind others = unkept

abbrev pub meant_after : Stars → Meant → Meant
meant_after stars m = kept_after stars m.kind m.stars

-- the names of a table
abbrev pub names_in : {A : Type 0} → List (Entry A) → List (List ℕ)
names_in entries = map (λ e. e.name) entries

-- a tag has this number among tags
abbrev pub HasNumber : List (List ℕ) → List ℕ → ℕ → Type 0
HasNumber tags tag number = position (λ other. bytes_eq other tag) tags ≡ Some number

-- tags keep their numbers where others are added
abbrev pub Keeps : (tags more : List (List ℕ)) → Type 0
Keeps tags more = (tag : List ℕ) (number : ℕ) → HasNumber tags tag number → HasNumber more tag number

-- the number of a type that is an undefined tag after a keyword
abbrev pub tag_number : (tags : List (List ℕ)) → Keyword → BaseType → Option ℕ
tag_number tags keyword (base.Undefined other tag) = if same_keyword keyword other then position (λ other. bytes_eq other tag) tags else None
tag_number tags keyword b = None

-- the type is of this kind, where undefined tags have their numbers among these
abbrev pub IsOfKind : (tags : List (List ℕ)) → Kind → BaseType → Type 0
IsOfKind tags (Number scalar is_char) b = b ≡ base.Number scalar is_char
IsOfKind tags Float b = b ≡ base.Float
IsOfKind tags Double b = b ≡ base.Double
IsOfKind tags Sizeless b = b ≡ base.Sizeless
IsOfKind tags (Structure id) b = b ≡ base.Structure id
IsOfKind tags (Undefined keyword number) b = tag_number tags keyword b ≡ Some number
IsOfKind tags Unknown b = b ≡ base.Unknown

-- the type after stars has this meaning
abbrev pub IsMeant : (tags : List (List ℕ)) → Meant → Resolved → Type 0
IsMeant tags m r = IsOfKind tags m.kind r.base × (r.stars ≡ m.stars)

-- the same kind; opaque names have one
abbrev pub same_kind : Kind → Kind → Bool
same_kind (Number scalar is_char) (Number other char) = same_scalar scalar other && same_bool is_char char
same_kind Float Float = true
same_kind Double Double = true
same_kind Sizeless Sizeless = true
same_kind (Structure id) (Structure other) = id == other
same_kind (Undefined keyword tag) (Undefined other number) = same_keyword keyword other && (tag == number)
same_kind Unknown Unknown = true
same_kind a b = false
