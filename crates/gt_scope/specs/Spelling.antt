-- Types as they are spelled: which numbers the words and the fixed names are.
use Rattle.std.specs.Prelude.{ℕ, Bool, true, false, List, [], ◌∷◌, codes, Option, find, option_map}
use Rattle.std.specs.Option.{option_map_or}
use Rattle.std.specs.Str.{bytes_eq}
use Rattle.gt_types.specs.declared.types.Scalar.{Scalar}
use Rattle.gt_types.specs.declared.types.Scalar.TheVariants as scalar
use Rattle.gt_types.specs.declared.types.Width.{Width}
use Rattle.gt_types.specs.declared.types.Width.TheVariants.{W1, W2, W4, W8}
use Rattle.gt_items.specs.declared.items.Sign.{Sign}
use Rattle.gt_items.specs.declared.items.Sign.TheVariants as sign
use Rattle.gt_items.specs.declared.items.Size.{Size}
use Rattle.gt_items.specs.declared.items.Size.TheVariants as size
use Rattle.gt_items.specs.declared.items.Core.{Core}
use Rattle.gt_items.specs.declared.items.Core.TheVariants as core
use Rattle.gt_items.specs.declared.items.RawType.{RawType}
use Rattle.gt_items.specs.declared.items.RawType.TheVariants as raw
use Rattle.gt_scope.specs.declared.types.Spelled.{Spelled}
use Rattle.gt_scope.specs.declared.types.Spelled.TheVariants.{Number, Float, Double, Sizeless, Tagged, Named}

-- an integer that is no character
abbrev pub integer : Width → Bool → Spelled
integer width signed = Number (scalar.Int width signed) false

-- without the word `unsigned` a number is signed
abbrev pub is_signed : Sign → Bool
is_signed sign.Plain = true
is_signed sign.Signed = true
is_signed sign.Unsigned = false

-- the width that the words `short` and `long` give
abbrev pub width_of : Size → Width
width_of size.Plain = W4
width_of size.Short = W2
width_of size.Long = W8
width_of size.LongLong = W8

-- `double` is a number of its own, and `long double` has no size
abbrev pub double_of : Size → Spelled
double_of size.Plain = Double
double_of size.Short = Double
double_of size.Long = Sizeless
double_of size.LongLong = Sizeless

-- a combination of words, by its word that is no sign and no size
abbrev pub combined : Core → Sign → Size → Spelled
combined core.Plain sign size = integer (width_of size) (is_signed sign)
combined core.Int sign size = integer (width_of size) (is_signed sign)
combined core.Char sign size = Number (scalar.Int W1 (is_signed sign)) true
combined core.Bool sign size = Number scalar.Bool false
combined core.Float sign size = Float
combined core.Double sign size = double_of size
combined core.Void sign size = Sizeless

-- the names that are numbers without a typedef
abbrev pub fixed_types : List (List ℕ × Scalar)
fixed_types =
    (codes "HOST_WIDE_INT", scalar.Int W8 true) ∷ (codes "int64_t", scalar.Int W8 true)
    ∷ (codes "size_t", scalar.Int W8 false) ∷ (codes "uint64_t", scalar.Int W8 false)
    ∷ (codes "int8_t", scalar.Int W1 true) ∷ (codes "int16_t", scalar.Int W2 true) ∷ (codes "int32_t", scalar.Int W4 true)
    ∷ (codes "uint8_t", scalar.Int W1 false) ∷ (codes "uint16_t", scalar.Int W2 false) ∷ (codes "uint32_t", scalar.Int W4 false)
    ∷ (codes "location_t", scalar.Int W4 false) ∷ (codes "BOOL_BITFIELD", scalar.Int W4 false) ∷ []

-- the number that such a name is, or none
unfoldable pub fixed_of : List ℕ → Option Scalar
fixed_of word = option_map (λ fixed. fixed.1) (find (λ fixed. bytes_eq fixed.0 word) fixed_types)

-- a name: a number of the table, or a name that is to be looked up
abbrev pub spelled_name : List ℕ → Spelled
spelled_name word = option_map_or (λ number. Number number false) (fixed_of word) (Named word)

-- a type as it is spelled
unfoldable pub spelled_of : RawType → Spelled
spelled_of (raw.Words words) = combined words.core words.sign words.size
spelled_of raw.UnsignedHostWide = integer W8 false
spelled_of (raw.Tagged keyword tag) = Tagged keyword tag.word
spelled_of (raw.Named name) = spelled_name name.word
