-- Where the tokens of a text lie: they are slices of it, in order, and between them is what is no token.
use Rattle.std.specs.Prelude.{◌≡◌, ℕ, ◌<◌, ◌≤◌, Bool, not, List, [], ◌∷◌, length, map, drop, slice_range, encode_utf8_all, IsTrue}
use Rattle.std.specs.List.{list_all}
use Rattle.gt_lex.specs.declared.tokens.Kind.{Kind}
use Rattle.gt_lex.specs.declared.tokens.Kind.TheVariants.{Ident, Number, Quoted, CharLit, Punct}
use Rattle.gt_lex.specs.declared.tokens.Token.{Token}
use Rattle.gt_lex.specs.declared.tokens.Define.{Define}
use Rattle.gt_lex.specs.Characters.{double_quote, single_quote}
use Rattle.gt_lex.specs.Extents.{IsIdentifier, IsNumber, IsLiteral}
use Rattle.gt_lex.specs.Parts.{Piece, text_of}
use Rattle.gt_lex.specs.Texts.{ArePieces, is_token}

-- spans of at least one byte, each after the one before, between two offsets
abbrev pub AreSpans : ℕ → List (ℕ × ℕ) → ℕ → Type 0
AreSpans from [] to = from ≤ to
AreSpans from (s ∷ ss) to = (from ≤ s.0) × (s.0 < s.1) × AreSpans s.1 ss to

abbrev pub token_spans : List Token → List (ℕ × ℕ)
token_spans ts = map (λ t. (t.start, t.end)) ts

abbrev pub define_spans : List Define → List (ℕ × ℕ)
define_spans ds = map (λ d. (d.start, d.end)) ds

-- the characters of a token of a kind
abbrev pub IsOfKind : Kind → List ℕ → Type 0
IsOfKind Ident cs = IsIdentifier cs
IsOfKind Number cs = IsNumber cs
IsOfKind Quoted cs = IsLiteral double_quote cs
IsOfKind CharLit cs = IsLiteral single_quote cs
IsOfKind Punct cs = length cs ≡ 1

-- a token is a slice of the text, whose characters are of its kind
abbrev pub IsSlice : List ℕ → Token → Type 0
IsSlice text t = (cs : List ℕ) × (slice_range text t.start t.end ≡ encode_utf8_all cs) × IsOfKind t.kind cs

-- a constant's name is a slice of the text, an identifier
abbrev pub IsNameSlice : List ℕ → Define → Type 0
IsNameSlice text d = (cs : List ℕ) × (slice_range text d.start d.end ≡ encode_utf8_all cs) × IsIdentifier cs

-- bytes that are white space, comments and directives
abbrev pub IsGap : List ℕ → Type 0
IsGap bytes = (fresh : Bool) × (gaps : List Piece) × (rest : List ℕ) × ArePieces fresh gaps rest × IsTrue (list_all (λ p. not (is_token p)) gaps) × (bytes ≡ encode_utf8_all (text_of gaps))

-- from an offset on, all that lies before, between and after tokens
abbrev pub AreApart : List ℕ → ℕ → List Token → Type 0
AreApart text from [] = IsGap (drop from text)
AreApart text from (t ∷ ts) = IsGap (slice_range text from t.start) × AreApart text t.end ts
