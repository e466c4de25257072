-- The names of a program.
use Rattle.std.specs.Prelude.{ℕ, Bool, false, ◌||◌, ◌==◌, nat_lt, IsTrue, List, [], ◌∷◌}
use Rattle.std.specs.List.{list_all}
use Rattle.std.specs.Char.{is_ascii_alphanumeric}

-- letters of ASCII, digits, _ (95), # (35), and every character above 127
abbrev pub is_name_character : ℕ → Bool
is_name_character c = is_ascii_alphanumeric c || (c == 95) || (c == 35) || nat_lt 127 c

abbrev pub is_name : List ℕ → Bool
is_name [] = false
is_name (c ∷ cs) = list_all is_name_character (c ∷ cs)

-- a name has at least one character, and only those
abbrev pub IsName : List ℕ → Type 0
IsName word = IsTrue (is_name word)
