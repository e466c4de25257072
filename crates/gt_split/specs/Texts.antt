-- Texts that are cut at bytes, the lines of a text, and which bytes mean what in a line of a script.
use Rattle.std.specs.Prelude.{ℕ, Bool, true, false, ◌||◌, ◌==◌, ◌-◌, if◌then◌else◌, List, [], ◌∷◌, length, take, drop, Option, Some, None}
use Rattle.std.specs.List.{slice_split}
use Rattle.std.specs.Str.{bytes_eq}

-- a step that needs what the one before gave
infixl 10 ◌>>=◌
abbrev pub ◌>>=◌ : {A B : Type 0} → Option A → (A → Option B) → Option B
(Some x) >>= f = f x
None >>= f = None

-- what stands after a literal, where the text begins with it
unfoldable pub following : List ℕ → List ℕ → Option (List ℕ)
following literal text = if bytes_eq (take (length literal) text) literal then Some (drop (length literal) text) else None

-- what stands before a literal, where the text ends with it
unfoldable pub before : List ℕ → List ℕ → Option (List ℕ)
before literal text =
    if bytes_eq (drop (length text - length literal) text) literal then Some (take (length text - length literal) text) else None

-- what stands before and after the first of a byte
unfoldable pub parts_at : ℕ → List ℕ → Option (List ℕ × List ℕ)
parts_at byte [] = None
parts_at byte (c ∷ cs) = if c == byte then Some ([], cs) else (do
  parts ← parts_at byte cs
  Some (c ∷ parts.0, parts.1))

-- of the parts between newlines the last is a line only where it has a byte, since a newline ends a line
abbrev pub without_empty_last : List (List ℕ) → List (List ℕ)
without_empty_last [] = []
without_empty_last (part ∷ []) = if length part == 0 then [] else part ∷ []
without_empty_last (part ∷ next ∷ parts) = part ∷ without_empty_last (next ∷ parts)

-- the lines of a text, without their newlines (10)
abbrev pub lines_of : List ℕ → List (List ℕ)
lines_of text = without_empty_last (slice_split (λ c. c == 10) text)

-- ---- what gt_script's definition of the language cites

-- blanks are spaces (32) and tabs (9)
unfoldable pub is_blank : ℕ → Bool
is_blank c = (c == 32) || (c == 9)

-- a word ends where a blank follows, or nothing
abbrev pub ends_word : List ℕ → Bool
ends_word [] = true
ends_word (c ∷ cs) = is_blank c

-- what a character after a backslash (92) means: itself where it is a backslash or a quote (34), a newline (10) where it
-- is n (110), a zero where it is 0 (48)
unfoldable pub escape_of : ℕ → Option ℕ
escape_of c =
    if c == 92 then Some 92 else if c == 34 then Some 34 else if c == 110 then Some 10 else if c == 48 then Some 0 else None

-- whether a zero (48) leads other bytes
abbrev pub leads_with_zero : List ℕ → Bool
leads_with_zero [] = false
leads_with_zero (c ∷ []) = false
leads_with_zero (c ∷ d ∷ cs) = c == 48
