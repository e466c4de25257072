-- The characters that mean something to the reader of a header, and how many bytes a text takes.
use Rattle.std.specs.Prelude.{◌≡◌, ℕ, Bool, false, ◌==◌, List, [], ◌∷◌, length, encode_utf8_all}
use Rattle.std.specs.List.{list_any}

abbrev pub newline : ℕ
newline = 10

abbrev pub carriage_return : ℕ
carriage_return = 13

abbrev pub double_quote : ℕ
double_quote = 34

abbrev pub hash : ℕ
hash = 35

abbrev pub single_quote : ℕ
single_quote = 39

abbrev pub star : ℕ
star = 42

abbrev pub dot : ℕ
dot = 46

abbrev pub slash : ℕ
slash = 47

abbrev pub backslash : ℕ
backslash = 92

-- whether there is a first character, and it passes a test
abbrev pub first_passes : (ℕ → Bool) → List ℕ → Bool
first_passes test [] = false
first_passes test (c ∷ cs) = test c

-- whether a text begins with a character
abbrev pub first_is : ℕ → List ℕ → Bool
first_is x = first_passes (λ c. c == x)

-- whether a newline stands among characters
abbrev pub has_newline : List ℕ → Bool
has_newline cs = list_any (λ c. c == newline) cs

-- a line ends at a newline, and at the text's end
abbrev pub EndsLine : List ℕ → Type 0
EndsLine [] = Unit {0}
EndsLine (c ∷ cs) = c ≡ newline

-- how many bytes characters take as UTF-8
abbrev pub byte_len : List ℕ → ℕ
byte_len cs = length (encode_utf8_all cs)
