-- No promise: the number that a text is, in the order of reading. The promise is in gt_script's definition of the language.
use Rattle.std.specs.Prelude.{ℕ, ◌^◌, not, ◌&&◌, ◌==◌, nat_lt, nat_le, if◌then◌else◌, codes, List, length, Option, Some, None, ℤ, pos, neg_ℤ}
use Rattle.std.specs.Option.{option_map, option_map_or}
use Rattle.std.specs.List.{list_all}
use Rattle.std.specs.Char.{is_digit}
use Rattle.gt_text.specs.Integer.{value_of}
use Rattle.gt_split.specs.Texts.{◌>>=◌, following, leads_with_zero}

-- the number that digits write in a base, at least one digit and less than 2 ^ 64
unfoldable pub digits_at : ℕ → List ℕ → Option ℕ
digits_at base text =
    if not (length text == 0) && list_all (λ c. is_digit c base) text && nat_lt (value_of base text) (2 ^ 64) then Some (value_of base text) else None

-- a decimal number has no leading zero
unfoldable pub decimal_at : List ℕ → Option ℕ
decimal_at text = if leads_with_zero text then None else digits_at 10 text

-- after 0x the digits are hexadecimal, and zeros may lead
unfoldable pub natural_at : List ℕ → Option ℕ
natural_at text = option_map_or (digits_at 16) (following (codes "0x") text) (decimal_at text)

-- after a minus the number is at most 2 ^ 63
unfoldable pub negative_at : List ℕ → Option ℤ
negative_at text = do
  number ← natural_at text
  if nat_le number (2 ^ 63) then Some (neg_ℤ (pos number)) else None

-- an integer from - 2 ^ 63 to 2 ^ 64 - 1
unfoldable pub integer_at : List ℕ → Option ℤ
integer_at text = option_map_or negative_at (following (codes "-") text) (option_map pos (natural_at text))
