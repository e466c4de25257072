-- Lines of words, and integers.
use Rattle.std.specs.Prelude.{ℕ, ◌+◌, ℤ, pos, negsuc, List, [], ◌∷◌, ◌++◌}
use Rattle.std.specs.List.{flat_map}
use Rattle.gt_digits.specs.Digits.{decimal}

-- each word after a space (32)
abbrev pub spaced : List (List ℕ) → List ℕ
spaced words = flat_map (λ word. 32 ∷ word) words

-- a line: its first word, each further word after a space, and a newline (10)
abbrev pub line : List ℕ → List (List ℕ) → List ℕ
line first words = first ++ spaced words ++ 10 ∷ []

-- an integer in decimal, with - (45) before it where it is negative; `negsuc n` is -(n + 1)
abbrev pub integer : ℤ → List ℕ
integer (pos n) = decimal n
integer (negsuc n) = 45 ∷ decimal (n + 1)
