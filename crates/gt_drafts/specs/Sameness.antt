-- When two types are the same.
use Rattle.std.specs.Prelude.{Bool, true, false, ◌&&◌, not, ◌==◌}
use Rattle.std.specs.Str.{bytes_eq}
use Rattle.gt_types.specs.declared.types.Scalar.{Scalar}
use Rattle.gt_types.specs.declared.types.Scalar.TheVariants as scalar
use Rattle.gt_types.specs.declared.types.Width.{Width}
use Rattle.gt_types.specs.declared.types.Width.TheVariants.{W1, W2, W4, W8}
use Rattle.gt_items.specs.declared.items.Keyword.{Keyword}
use Rattle.gt_items.specs.declared.items.Keyword.TheVariants as keyword
use Rattle.gt_items.specs.declared.items.Stars.{Stars}
use Rattle.gt_items.specs.declared.items.Stars.TheVariants.{Zero, One, Two, More}
use Rattle.gt_drafts.specs.declared.types.BaseType.{BaseType}
use Rattle.gt_drafts.specs.declared.types.BaseType.TheVariants.{Number, Float, Double, Sizeless, Structure, Undefined, Unknown}
use Rattle.gt_drafts.specs.declared.types.Resolved.{Resolved}

abbrev pub same_width : Width → Width → Bool
same_width W1 W1 = true
same_width W2 W2 = true
same_width W4 W4 = true
same_width W8 W8 = true
same_width a b = false

abbrev pub same_bool : Bool → Bool → Bool
same_bool true b = b
same_bool false b = not b

abbrev pub same_scalar : Scalar → Scalar → Bool
same_scalar scalar.Bool scalar.Bool = true
same_scalar (scalar.Int width signed) (scalar.Int other sign) = same_width width other && same_bool signed sign
same_scalar a b = false

abbrev pub same_keyword : Keyword → Keyword → Bool
same_keyword keyword.Struct keyword.Struct = true
same_keyword keyword.Union keyword.Union = true
same_keyword keyword.Enum keyword.Enum = true
same_keyword a b = false

abbrev pub same_stars : Stars → Stars → Bool
same_stars Zero Zero = true
same_stars One One = true
same_stars Two Two = true
same_stars More More = true
same_stars a b = false

-- the same type; opaque names have one
abbrev pub same_base : BaseType → BaseType → Bool
same_base (Number scalar is_char) (Number other char) = same_scalar scalar other && same_bool is_char char
same_base Float Float = true
same_base Double Double = true
same_base Sizeless Sizeless = true
same_base (Structure id) (Structure other) = id == other
same_base (Undefined keyword tag) (Undefined other name) = same_keyword keyword other && bytes_eq tag name
same_base Unknown Unknown = true
same_base a b = false

abbrev pub same_type : Resolved → Resolved → Bool
same_type a b = same_base a.base b.base && same_stars a.stars b.stars
