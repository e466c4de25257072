-- The parts of a text, and how each is spelled.
use Rattle.std.specs.Prelude.{ℕ, List, [], ◌∷◌, ◌++◌}
use Rattle.std.specs.List.{flat_map}
use Rattle.gt_lex.specs.declared.tokens.Kind.{Kind}
use Rattle.gt_lex.specs.Characters.{star, slash, backslash, hash}

-- A part of a text or of a directive: a white space character, a comment `/* */` or `//` by what stands in it, a
-- backslash with the line's end that it continues, or a token by its characters.
pub data Part : Type 0 where
  Space : ℕ → Part
  Block : List ℕ → Part
  Line : List ℕ → Part
  Continuation : List ℕ → Part
  Item : Kind → List ℕ → Part

-- A piece of a text: a part, or a directive by the parts after its `#`.
pub data Piece : Type 0 where
  Plain : Part → Piece
  Directive : List Part → Piece

-- the characters of a part
abbrev pub spelling : Part → List ℕ
spelling (Space c) = c ∷ []
spelling (Block inside) = slash ∷ star ∷ (inside ++ star ∷ slash ∷ [])
spelling (Line inside) = slash ∷ slash ∷ inside
spelling (Continuation end) = backslash ∷ end
spelling (Item kind cs) = cs

-- the characters of parts, one after another
abbrev pub spellings : List Part → List ℕ
spellings ps = flat_map spelling ps

-- the characters of a piece
abbrev pub piece_spelling : Piece → List ℕ
piece_spelling (Plain p) = spelling p
piece_spelling (Directive ps) = hash ∷ spellings ps

-- the characters of pieces, one after another
abbrev pub text_of : List Piece → List ℕ
text_of pieces = flat_map piece_spelling pieces
