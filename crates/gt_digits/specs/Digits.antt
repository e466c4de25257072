-- The digits of numbers.
use Rattle.std.specs.Prelude.{ℕ, ◌-◌, ◌==◌, if◌then◌else◌, List, ◌++◌, codes, length, map, replicate}
use Rattle.std.specs.Char.{digit_char}
use Rattle.std.specs.Int.Digits.{digits_of}

-- a number in decimal
abbrev pub decimal : ℕ → List ℕ
decimal n = if n == 0 then codes "0" else map digit_char (digits_of 10 n)

-- a number as eight hexadecimal digits in lower case, or more where it has more
abbrev pub hexadecimal : ℕ → List ℕ
hexadecimal n = let digits = map digit_char (digits_of 16 n) in replicate (8 - length digits) 48 ++ digits
