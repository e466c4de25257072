-- What each token may be in an item, and the texts that are kept of tokens.
use Rattle.std.specs.Prelude.{ℕ, Bool, true, false, ◌==◌, if◌then◌else◌, List, [], ◌∷◌, ◌++◌, map, codes, slice_range, encode_utf8_all}
use Rattle.std.specs.Str.{bytes_eq, chars}
use Rattle.gt_lex.specs.declared.tokens.Kind.{Kind}
use Rattle.gt_lex.specs.declared.tokens.Kind.TheVariants as kind
use Rattle.gt_lex.specs.declared.tokens.Token.{Token}
use Rattle.gt_items.specs.declared.items.Keyword.TheVariants as keyword
use Rattle.gt_items.specs.declared.items.Name.{Name}
use Rattle.gt_search.specs.declared.lexeme.TokenText.{TokenText}
use Rattle.gt_search.specs.declared.lexeme.Bracket.TheVariants.{Round, Square, Brace}
use Rattle.gt_search.specs.declared.lexeme.TypeWord.TheVariants as word
use Rattle.gt_search.specs.declared.lexeme.Lexeme.{Lexeme}
use Rattle.gt_search.specs.declared.lexeme.Lexeme.TheVariants as lexeme

-- an identifier without another meaning is a word of a combination, or else a name
unfoldable pub type_lexeme : TokenText → Lexeme
type_lexeme s =
    if bytes_eq s.word (codes "unsigned") then lexeme.Type word.Unsigned s
    else if bytes_eq s.word (codes "signed") then lexeme.Type word.Signed s
    else if bytes_eq s.word (codes "short") then lexeme.Type word.Short s
    else if bytes_eq s.word (codes "long") then lexeme.Type word.Long s
    else if bytes_eq s.word (codes "int") then lexeme.Type word.Int s
    else if bytes_eq s.word (codes "char") then lexeme.Type word.Char s
    else if bytes_eq s.word (codes "bool") then lexeme.Type word.Bool s
    else if bytes_eq s.word (codes "_Bool") then lexeme.Type word.Bool s
    else if bytes_eq s.word (codes "float") then lexeme.Type word.Float s
    else if bytes_eq s.word (codes "double") then lexeme.Type word.Double s
    else if bytes_eq s.word (codes "void") then lexeme.Type word.Void s
    else lexeme.Name s

-- an identifier is one of the words with a meaning of their own, or else a name
unfoldable pub identifier_lexeme : TokenText → Lexeme
identifier_lexeme s =
    if bytes_eq s.word (codes "GTY") then lexeme.Gty s
    else if bytes_eq s.word (codes "struct") then lexeme.Tag keyword.Struct s
    else if bytes_eq s.word (codes "union") then lexeme.Tag keyword.Union s
    else if bytes_eq s.word (codes "enum") then lexeme.Tag keyword.Enum s
    else if bytes_eq s.word (codes "typedef") then lexeme.Typedef s
    else if bytes_eq s.word (codes "static") then lexeme.Static s
    else if bytes_eq s.word (codes "extern") then lexeme.Extern s
    else if bytes_eq s.word (codes "const") then lexeme.Qualifier s
    else if bytes_eq s.word (codes "volatile") then lexeme.Qualifier s
    else if bytes_eq s.word (codes "class") then lexeme.Reserved s
    else if bytes_eq s.word (codes "template") then lexeme.Reserved s
    else if bytes_eq s.word (codes "namespace") then lexeme.Reserved s
    else type_lexeme s

-- a character that is a token by itself
unfoldable pub mark_lexeme : TokenText → Lexeme
mark_lexeme s =
    if bytes_eq s.word (codes "(") then lexeme.Open Round s
    else if bytes_eq s.word (codes ")") then lexeme.Close Round s
    else if bytes_eq s.word (codes "[") then lexeme.Open Square s
    else if bytes_eq s.word (codes "]") then lexeme.Close Square s
    else if bytes_eq s.word (codes "{") then lexeme.Open Brace s
    else if bytes_eq s.word (codes "}") then lexeme.Close Brace s
    else if bytes_eq s.word (codes ";") then lexeme.Semicolon s
    else if bytes_eq s.word (codes ",") then lexeme.Comma s
    else if bytes_eq s.word (codes ":") then lexeme.Colon s
    else if bytes_eq s.word (codes "*") then lexeme.Star s
    else if bytes_eq s.word (codes "=") then lexeme.Equals s
    else if bytes_eq s.word (codes "<") then lexeme.Less s
    else if bytes_eq s.word (codes ">") then lexeme.Greater s
    else lexeme.Other s

-- a token of a kind
abbrev pub lexeme_of : Kind → TokenText → Lexeme
lexeme_of kind.Ident s = identifier_lexeme s
lexeme_of kind.Number s = lexeme.Other s
lexeme_of kind.Quoted s = lexeme.Quoted s
lexeme_of kind.CharLit s = lexeme.Other s
lexeme_of kind.Punct s = mark_lexeme s

-- where a token of a text stands, and its characters
abbrev pub spot_in : List ℕ → Token → TokenText
spot_in text t = record { word = chars (slice_range text t.start t.end); start = t.start; end = t.end }

-- the tokens of a text by what they may be
abbrev pub lexemes_of : List ℕ → List Token → List Lexeme
lexemes_of text tokens = map (λ t. lexeme_of t.kind (spot_in text t)) tokens

-- where a token stands, and its characters
abbrev pub spot_of : Lexeme → TokenText
spot_of (lexeme.Name s) = s
spot_of (lexeme.Type w s) = s
spot_of (lexeme.Tag k s) = s
spot_of (lexeme.Gty s) = s
spot_of (lexeme.Typedef s) = s
spot_of (lexeme.Static s) = s
spot_of (lexeme.Extern s) = s
spot_of (lexeme.Qualifier s) = s
spot_of (lexeme.Reserved s) = s
spot_of (lexeme.Quoted s) = s
spot_of (lexeme.Open b s) = s
spot_of (lexeme.Close b s) = s
spot_of (lexeme.Semicolon s) = s
spot_of (lexeme.Comma s) = s
spot_of (lexeme.Colon s) = s
spot_of (lexeme.Star s) = s
spot_of (lexeme.Equals s) = s
spot_of (lexeme.Less s) = s
spot_of (lexeme.Greater s) = s
spot_of (lexeme.Other s) = s

-- whether a token is an identifier, with a meaning of its own or without
abbrev pub is_identifier : Lexeme → Bool
is_identifier (lexeme.Name s) = true
is_identifier (lexeme.Type w s) = true
is_identifier (lexeme.Tag k s) = true
is_identifier (lexeme.Gty s) = true
is_identifier (lexeme.Typedef s) = true
is_identifier (lexeme.Static s) = true
is_identifier (lexeme.Extern s) = true
is_identifier (lexeme.Qualifier s) = true
is_identifier (lexeme.Reserved s) = true
is_identifier t = false

-- the name that a token is
abbrev pub name_of : TokenText → Name
name_of s = record { word = s.word; at = s.start }

-- the texts of tokens after one that ends at an offset, with one space where something that is no token stood before one
unfoldable pub text_after : ℕ → List Lexeme → List ℕ
text_after end [] = []
text_after end (t ∷ ts) = (if end == (spot_of t).start then [] else 32 ∷ []) ++ encode_utf8_all (spot_of t).word ++ text_after (spot_of t).end ts

-- the kept text of tokens
unfoldable pub kept_text : List Lexeme → List ℕ
kept_text [] = []
kept_text (t ∷ ts) = encode_utf8_all (spot_of t).word ++ text_after (spot_of t).end ts
