-- Numbers on the command line.
use Rattle.std.specs.Prelude.{ℕ, ◌+◌, ◌*◌, ◌-◌, Bool, false, ◌&&◌, ◌==◌, not, nat_le, if◌then◌else◌, List, ◌∷◌, length, fold, Option, Some, None}
use Rattle.std.specs.List.{list_all}
use Rattle.std.specs.Char.{is_ascii_digit}

-- one digit or more, and nothing else
unfoldable pub is_decimal_of : List ℕ → Bool
is_decimal_of text = not (length text == 0) && list_all is_ascii_digit text

-- the number that digits write, the highest first
abbrev pub value_of : List ℕ → ℕ
value_of digits = fold (λ value c. value * 10 + (c - 48)) 0 digits

-- the number of decimal digits, where it is in the range from `least` to `most`
unfoldable pub digits_in : ℕ → ℕ → List ℕ → Option ℕ
digits_in least most text =
    if is_decimal_of text && nat_le least (value_of text) && nat_le (value_of text) most then Some (value_of text) else None

-- a 0 (48) stands in front of something
unfoldable pub has_leading_zero_of : List ℕ → Bool
has_leading_zero_of (c ∷ d ∷ rest) = c == 48
has_leading_zero_of _ = false

-- the same number, where no zero leads
unfoldable pub number_in : ℕ → ℕ → List ℕ → Option ℕ
number_in least most text = if has_leading_zero_of text then None else digits_in least most text
