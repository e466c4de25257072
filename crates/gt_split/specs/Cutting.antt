-- No promise: the words of a line, in the order of reading. The promise is gt_script's law `words_as_spelled`.
use Rattle.std.specs.Prelude.{ℕ, zero, suc, Bool, true, false, not, nat_le, ◌==◌, if◌then◌else◌, List, [], ◌∷◌, length, take, drop, Option, Some, None}
use Rattle.std.specs.List.{prefix_len}
use Rattle.gt_split.specs.declared.pieces.Piece.{Piece}
use Rattle.gt_split.specs.declared.pieces.Piece.TheVariants.{Plain, Quoted}
use Rattle.gt_split.specs.Texts.{◌>>=◌, is_blank, ends_word, escape_of}

-- the text without the blanks at its front
unfoldable pub without_blanks : List ℕ → List ℕ
without_blanks [] = []
without_blanks (c ∷ cs) = if is_blank c then without_blanks cs else c ∷ cs

-- The bytes up to a closing quote and what stands after it, or None where none closes or an escape means nothing. With
-- escaped a backslash stands directly before the text.
unfoldable pub quoted_at : Bool → List ℕ → Option (List ℕ × List ℕ)
quoted_at escaped [] = None
quoted_at true (c ∷ cs) = do
  meant ← escape_of c
  more ← quoted_at false cs
  Some (meant ∷ more.0, more.1)
quoted_at false (c ∷ cs) =
    if c == 34 then Some ([], cs) else if c == 92 then quoted_at true cs else (do
      more ← quoted_at false cs
      Some (c ∷ more.0, more.1))

-- after an opening quote: a quoted word, which nothing touches, and what stands after it
unfoldable pub quoted_word_at : List ℕ → Option (Piece × List ℕ)
quoted_word_at text = do
  quoted ← quoted_at false text
  if ends_word quoted.1 then Some (Quoted quoted.0, quoted.1) else None

-- how many bytes stand before the first blank
abbrev pub plain_len : List ℕ → ℕ
plain_len text = prefix_len (λ c. not (is_blank c)) text

-- the word to which the first byte of a text belongs, and what stands after it
unfoldable pub word_at : List ℕ → Option (Piece × List ℕ)
word_at [] = None
word_at (c ∷ cs) = if c == 34 then quoted_word_at cs else Some (Plain (c ∷ take (plain_len cs) cs), drop (plain_len cs) cs)

-- the words of a text, where they are at most as many as a count
unfoldable pub words_within : ℕ → List ℕ → Option (List Piece)
words_within zero text = Some []
words_within (suc count) text = if length (without_blanks text) == 0 then Some [] else (do
  word ← word_at (without_blanks text)
  words ← words_within count word.1
  Some (word.0 ∷ words))

-- the words of a line: there are no more of them than bytes
abbrev pub words_of : List ℕ → Option (List Piece)
words_of text = words_within (length text) text

-- words, where they are at most four, as many as the longest form of a command has
abbrev pub few : Option (List Piece) → Option (List Piece)
few found = do
  words ← found
  if nat_le (length words) 4 then Some words else None

-- the words of a line, where they are at most four
abbrev pub few_of : List ℕ → Option (List Piece)
few_of text = few (words_of text)
