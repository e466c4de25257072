-- What stands in brackets, and what is passed over.
use Rattle.std.specs.Prelude.{ℕ, zero, suc, List, [], ◌∷◌, ◌++◌, Option, Some, None}
use Rattle.gt_search.specs.declared.lexeme.Bracket.TheVariants.{Square}
use Rattle.gt_search.specs.declared.lexeme.Lexeme.{Lexeme}
use Rattle.gt_search.specs.declared.lexeme.Lexeme.TheVariants as lexeme
use Rattle.gt_search.specs.Lexemes.{kept_text}
use Rattle.gt_marked.specs.Outcome.{Outcome, Read, Ends, ◌>>=◌}

-- how many brackets are open after a token, or none where it closes one that opens before
abbrev pub depth_past : ℕ → Lexeme → Option ℕ
depth_past depth (lexeme.Open b s) = Some (suc depth)
depth_past zero (lexeme.Close b s) = None
depth_past (suc depth) (lexeme.Close b s) = Some depth
depth_past depth t = Some depth

-- how many brackets are open after a token, where one that closes none of them counts for nothing
abbrev pub depth_after : ℕ → Lexeme → ℕ
depth_after depth (lexeme.Open b s) = suc depth
depth_after zero (lexeme.Close b s) = zero
depth_after (suc depth) (lexeme.Close b s) = depth
depth_after depth t = depth

-- how many are open after a token as above, or none where a comma or a semicolon stands in no brackets
abbrev pub depth_in_part : ℕ → Lexeme → Option ℕ
depth_in_part zero (lexeme.Comma s) = None
depth_in_part zero (lexeme.Semicolon s) = None
depth_in_part depth t = depth_past depth t

-- one more token at the front of what was read
abbrev pub with_token : Lexeme → Outcome (List Lexeme) → Outcome (List Lexeme)
with_token t o = o >>= λ read. Read (t ∷ read.0) read.1

-- the tokens up to the bracket that closes the one before them, and those after it; depth other brackets are open
unfoldable pub inside_from : ℕ → List Lexeme → Outcome (List Lexeme)
inside_from depth [] = Ends
inside_from depth (lexeme.Open b s ∷ ts) = with_token (lexeme.Open b s) (inside_from (suc depth) ts)
inside_from zero (lexeme.Close b s ∷ ts) = Read [] ts
inside_from (suc depth) (lexeme.Close b s ∷ ts) = with_token (lexeme.Close b s) (inside_from depth ts)
inside_from depth (t ∷ ts) = with_token t (inside_from depth ts)

-- the tokens before the next comma, semicolon or closing bracket that stands in no brackets
unfoldable pub before_end : ℕ → List Lexeme → Outcome (List Lexeme)
before_end depth [] = Ends
before_end depth (lexeme.Open b s ∷ ts) = with_token (lexeme.Open b s) (before_end (suc depth) ts)
before_end zero (lexeme.Close b s ∷ ts) = Read [] (lexeme.Close b s ∷ ts)
before_end (suc depth) (lexeme.Close b s ∷ ts) = with_token (lexeme.Close b s) (before_end depth ts)
before_end zero (lexeme.Comma s ∷ ts) = Read [] (lexeme.Comma s ∷ ts)
before_end zero (lexeme.Semicolon s ∷ ts) = Read [] (lexeme.Semicolon s ∷ ts)
before_end depth (t ∷ ts) = with_token t (before_end depth ts)

-- the tokens after a square bracket that opens at the front
abbrev pub square_after : List Lexeme → Option (List Lexeme)
square_after (lexeme.Open Square s ∷ ts) = Some ts
square_after ts = None

-- the texts of bounds, after those that were read; at most count
unfoldable pub bounds_from : ℕ → List (List ℕ) → List Lexeme → Outcome (List (List ℕ))
bounds_from zero bounds ts = Read bounds ts
bounds_from (suc count) bounds (lexeme.Open Square s ∷ ts) = do
  inside ← inside_from 0 ts
  bounds_from count (bounds ++ kept_text inside.0 ∷ []) inside.1
bounds_from (suc count) bounds ts = Read bounds ts
