-- The constant of a directive `#define NAME INTEGER`.
use Rattle.std.specs.Prelude.{ℕ, ◌+◌, Bool, true, false, ◌&&◌, if◌then◌else◌, List, [], ◌∷◌, ◌++◌, length, codes, encode_utf8_all, Option, Some, None, ℤ, pos, neg_ℤ}
use Rattle.std.specs.Option.{option_map}
use Rattle.std.specs.Str.{bytes_eq}
use Rattle.gt_text.specs.Integer.{integer_of}
use Rattle.gt_lex.specs.declared.tokens.Kind.{Kind}
use Rattle.gt_lex.specs.declared.tokens.Kind.TheVariants.{Ident, Number, Quoted, CharLit, Punct}
use Rattle.gt_lex.specs.declared.tokens.Define.{Define}
use Rattle.gt_lex.specs.Characters.{byte_len}
use Rattle.gt_lex.specs.Parts.{Part, Space, Block, Line, Continuation, Item, spelling}

-- a token of a directive: its kind, its bytes, and the offset of the first
pub record Lexeme : Type 0 where
  pub kind : Kind
  pub text : List ℕ
  pub start : ℕ

-- the tokens among parts, of which the first begins at an offset
abbrev pub lexeme_at : ℕ → Part → List Lexeme
lexeme_at at (Item kind cs) = record { kind = kind; text = encode_utf8_all cs; start = at } ∷ []
lexeme_at at (Space c) = []
lexeme_at at (Block inside) = []
lexeme_at at (Line inside) = []
lexeme_at at (Continuation end) = []

abbrev pub lexemes_from : ℕ → List Part → List Lexeme
lexemes_from at [] = []
lexemes_from at (p ∷ ps) = lexeme_at at p ++ lexemes_from (at + byte_len (spelling p)) ps

abbrev pub is_name : Kind → Bool
is_name Ident = true
is_name Number = false
is_name Quoted = false
is_name CharLit = false
is_name Punct = false

-- the constant of a name and a value, where there is a value
abbrev pub constant : Lexeme → Option ℤ → Option Define
constant name None = None
constant name (Some value) = Some (record { start = name.start; end = name.start + length name.text; value = value })

abbrev pub value_of : Lexeme → Option ℤ
value_of number = option_map pos (integer_of number.text)

abbrev pub negative_value_of : Lexeme → Option ℤ
negative_value_of number = option_map (λ n. neg_ℤ (pos n)) (integer_of number.text)

-- The word define, a name, perhaps a minus, and an integer literal with a value: these and no more make a constant.
abbrev pub constant_of : List Lexeme → Option Define
constant_of (word ∷ name ∷ number ∷ []) =
    if bytes_eq word.text (codes "define") && is_name name.kind then constant name (value_of number) else None
constant_of (word ∷ name ∷ sign ∷ number ∷ []) =
    if bytes_eq word.text (codes "define") && is_name name.kind && bytes_eq sign.text (codes "-") then constant name (negative_value_of number) else None
constant_of _ = None
