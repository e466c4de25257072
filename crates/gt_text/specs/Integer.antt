-- What an integer literal is worth.
use Rattle.std.specs.Prelude.{ℕ, ◌+◌, ◌*◌, ◌^◌, Bool, ◌&&◌, ◌||◌, ◌==◌, not, if◌then◌else◌, nat_eq, nat_lt, codes, List, length, drop, fold, Option, Some, None}
use Rattle.std.specs.List.{list_any, list_all, take_while, starts_with}
use Rattle.std.specs.Char.{digit_value, is_digit}

-- the digits of a base at the front of a text, as many as there are
abbrev pub digits_of : ℕ → List ℕ → List ℕ
digits_of base text = take_while (λ c. is_digit c base) text

-- what stands after those digits
abbrev pub suffix_of : ℕ → List ℕ → List ℕ
suffix_of base text = drop (length (digits_of base text)) text

-- any of the letters u, U, l and L, and no other character
abbrev pub is_suffix_of : List ℕ → Bool
is_suffix_of text = list_all (λ c. list_any (λ letter. letter == c) (codes "uUlL")) text

-- the number that digits write in a base, the highest first
abbrev pub value_of : ℕ → List ℕ → ℕ
value_of base digits = fold (λ value c. value * base + digit_value c) 0 digits

-- one digit or more and a suffix, worth less than 2 ^ 63
abbrev pub numeral_of : ℕ → List ℕ → Option ℕ
numeral_of base text =
    let digits = digits_of base text in
    if not (length digits == 0) && is_suffix_of (suffix_of base text) && nat_lt (value_of base digits) (2 ^ 63) then Some (value_of base digits) else None

-- after 0x or 0X hexadecimal digits, from a 0 on octal digits, else decimal digits
unfoldable pub integer_of : List ℕ → Option ℕ
integer_of text =
    if starts_with nat_eq text (codes "0x") || starts_with nat_eq text (codes "0X") then numeral_of 16 (drop 2 text)
    else if starts_with nat_eq text (codes "0") then numeral_of 8 text else numeral_of 10 text
