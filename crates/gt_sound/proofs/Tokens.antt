-- The names among the tokens of a text, and among those of its items, are names.
use Rattle.std.proofs.Common.{◌≡◌, ◌∙◌, ℕ, ◌+◌, ◌-◌, Bool, true, false, List, [], ◌∷◌, ◌++◌, length, take, drop, refl, sym, ap, subst, arith, append_assoc, if◌then◌else◌, length-append}
use Rattle.std.specs.Prelude.{All, codes, slice_range, encode_utf8_all}
use Rattle.std.specs.Str.{chars, all_scalars, bytes_eq}
use Rattle.std.proofs.lemmas.Bool.{and_parts, and_from}
use Rattle.std.proofs.lemmas.List.{drop_at, take_at}
use Rattle.std.proofs.lemmas.List.Elements.{All-nil, All-cons, All-head, All-tail, All-append}
use Rattle.std.proofs.lemmas.Str.{encodes-append, encodes-chars, scalars-chars, chars-encodes}
use Rattle.gt_types.specs.Names.{IsName}
use Rattle.gt_lex.specs.declared.tokens.Token.{Token}
use Rattle.gt_lex.specs.declared.tokens.Define.{Define}
use Rattle.gt_lex.specs.declared.tokens.Kind.{Kind}
use Rattle.gt_lex.specs.declared.tokens.Kind.TheVariants as kind
use Rattle.gt_lex.specs.Characters.{byte_len}
use Rattle.gt_lex.specs.Extents.{IsIdentifier, Reaches}
use Rattle.gt_lex.specs.Parts.{Space, Block, Line, Continuation, Item, Piece, Plain, Directive, piece_spelling, text_of}
use Rattle.gt_lex.specs.Texts.{IsLexed, Stands, ArePieces, fresh_after, token_at, tokens_from}
use Rattle.gt_items.specs.declared.items.Keyword.TheVariants as keyword
use Rattle.gt_search.specs.declared.lexeme.Bracket.TheVariants.{Round, Square, Brace}
use Rattle.gt_search.specs.declared.lexeme.TypeWord.TheVariants as word
use Rattle.gt_search.specs.declared.lexeme.TokenText.{TokenText}
use Rattle.gt_search.specs.declared.lexeme.Lexeme.{Lexeme}
use Rattle.gt_search.specs.declared.lexeme.Lexeme.TheVariants as lexeme
use Rattle.gt_search.specs.declared.search.End.{End}
use Rattle.gt_search.specs.Lexemes.{type_lexeme, identifier_lexeme, mark_lexeme, lexeme_of, spot_in, lexemes_of}
use Rattle.gt_search.specs.Search.{Searches}
use Rattle.gt_sound.proofs.Words.{continues_name, starts_continues, all_names}
use Rattle.gt_sound.proofs.ReadMarkers.{Named, AreNamed, named_left, named_right}

-- ---- tokens

identifier_name : (cs : List ℕ) → IsIdentifier cs → IsName cs
identifier_name [] is = absurd is
identifier_name (c ∷ cs) is = and_from _ _ (continues_name c (starts_continues c is.0)) (all_names cs is.1)

-- a token that is an identifier is a name
abbrev TokenNamed : List ℕ → Token → Type 0
TokenNamed text t = t.kind ≡ kind.Ident → IsName (chars (slice_range text t.start t.end))

scalars_split : (xs ys : List ℕ) → all_scalars (xs ++ ys) ≡ true → (all_scalars xs ≡ true) × (all_scalars ys ≡ true)
scalars_split [] ys h = (refl, h)
scalars_split (x ∷ xs) ys h = let r = and_parts _ _ h in let s = scalars_split xs ys r.1 in (and_from _ _ r.0 s.0, s.1)

-- the characters of a slice
slice_is : (text before cs rest : List ℕ) → text ≡ encode_utf8_all (before ++ (cs ++ rest)) → slice_range text (byte_len before) (byte_len before + byte_len cs) ≡ encode_utf8_all cs
slice_is text before cs rest e =
    let whole : text ≡ encode_utf8_all before ++ (encode_utf8_all cs ++ encode_utf8_all rest) =
    e ∙ encodes-append before (cs ++ rest) ∙ ap (λ bytes. encode_utf8_all before ++ bytes) (encodes-append cs rest) in
    let following : drop (byte_len before) text ≡ encode_utf8_all cs ++ encode_utf8_all rest =
    ap (λ bytes. drop (byte_len before) bytes) whole ∙ drop_at (encode_utf8_all before) (encode_utf8_all cs ++ encode_utf8_all rest) (byte_len before) refl in
    let size : byte_len before + byte_len cs - byte_len before ≡ byte_len cs = omega arith in
    ap (λ n. take n (drop (byte_len before) text)) size
    ∙ ap (λ bytes. take (byte_len cs) bytes) following
    ∙ take_at (encode_utf8_all cs) (encode_utf8_all rest) (byte_len cs) refl

token_named : (text before cs rest : List ℕ) (k : Kind) → text ≡ encode_utf8_all (before ++ (cs ++ rest)) → all_scalars cs ≡ true → Reaches (Item k cs) rest
    → k ≡ kind.Ident → IsName (chars (slice_range text (byte_len before) (byte_len before + byte_len cs)))
token_named text before cs rest k e scalars reaches is =
    let longest = subst (λ j. Reaches (Item j cs) rest) is reaches in
    subst IsName (sym (ap chars (slice_is text before cs rest e) ∙ chars-encodes cs scalars)) (identifier_name cs longest.fits)

piece_named : (text before rest : List ℕ) (fresh : Bool) (p : Piece) → text ≡ encode_utf8_all (before ++ (piece_spelling p ++ rest)) → all_scalars (piece_spelling p) ≡ true → Stands fresh p rest
    → All (TokenNamed text) (token_at (byte_len before) p)
piece_named text before rest fresh (Plain (Item k cs)) e scalars stands =
    All-cons (TokenNamed text) (record { kind = k; start = byte_len before; end = byte_len before + byte_len cs }) [] (token_named text before cs rest k e scalars stands.1) (All-nil (TokenNamed text))
piece_named text before rest fresh (Plain (Space c)) e scalars stands = All-nil (TokenNamed text)
piece_named text before rest fresh (Plain (Block inside)) e scalars stands = All-nil (TokenNamed text)
piece_named text before rest fresh (Plain (Line inside)) e scalars stands = All-nil (TokenNamed text)
piece_named text before rest fresh (Plain (Continuation end)) e scalars stands = All-nil (TokenNamed text)
piece_named text before rest fresh (Directive ps) e scalars stands = All-nil (TokenNamed text)

nothing_after : (xs : List ℕ) → xs ++ [] ≡ xs
nothing_after [] = refl
nothing_after (x ∷ xs) = ap (λ ys. x ∷ ys) (nothing_after xs)

pieces_named : (text before : List ℕ) (fresh : Bool) (ps : List Piece) → text ≡ encode_utf8_all (before ++ text_of ps) → all_scalars (text_of ps) ≡ true → ArePieces fresh ps []
    → All (TokenNamed text) (tokens_from (byte_len before) ps)
pieces_named text before fresh [] e scalars are = All-nil (TokenNamed text)
pieces_named text before fresh (p ∷ ps) e scalars are =
    let cs = piece_spelling p in
    let split = scalars_split cs (text_of ps) scalars in
    let stands = subst (λ rest. Stands fresh p rest) (nothing_after (text_of ps)) are.0 in
    let more = pieces_named text (before ++ cs) (fresh_after fresh p) ps (e ∙ ap encode_utf8_all (sym (append_assoc before cs (text_of ps)))) split.1 are.1 in
    let size : byte_len (before ++ cs) ≡ byte_len before + byte_len cs = ap (λ bytes. length bytes) (encodes-append before cs) ∙ length-append (encode_utf8_all before) (encode_utf8_all cs) in
    All-append (TokenNamed text) (token_at (byte_len before) p) (tokens_from (byte_len before + byte_len cs) ps)
    (piece_named text before (text_of ps) fresh p e split.0 stands)
    (subst (λ n. All (TokenNamed text) (tokens_from n ps)) size more)

tokens_named : (text : List ℕ) (tokens : List Token) (defines : List Define) → IsLexed text tokens defines → All (TokenNamed text) tokens
tokens_named text tokens defines is =
    let whole : text ≡ encode_utf8_all (text_of is.pieces) = sym (encodes-chars text is.utf8) ∙ ap encode_utf8_all is.whole in
    let scalars : all_scalars (text_of is.pieces) ≡ true = ap all_scalars (sym is.whole) ∙ scalars-chars text is.utf8 in
    subst (λ ts. All (TokenNamed text) ts) (sym is.tokens_are) (pieces_named text [] true is.pieces whole scalars is.each)

-- ---- what tokens may be

-- the token of the first word that a text is, or else another
abbrev chosen : List (List ℕ × (TokenText → Lexeme)) → TokenText → Lexeme → Lexeme
chosen [] s other = other
chosen (word ∷ words) s other = if bytes_eq s.word word.0 then word.1 s else chosen words s other

either_named : (b : Bool) (x y : Lexeme) → Named x → Named y → Named (if b then x else y)
either_named true x y h k = h
either_named false x y h k = k

abbrev AreNoNames : List (List ℕ × (TokenText → Lexeme)) → TokenText → Type 0
AreNoNames [] s = Unit {0}
AreNoNames (word ∷ words) s = Named (word.1 s) × AreNoNames words s

chosen_named : (words : List (List ℕ × (TokenText → Lexeme))) (s : TokenText) (other : Lexeme) → AreNoNames words s → Named other → Named (chosen words s other)
chosen_named [] s other none h = h
chosen_named (word ∷ words) s other none h = either_named (bytes_eq s.word word.0) (word.1 s) (chosen words s other) none.0 (chosen_named words s other none.1 h)

-- the words of combinations
abbrev type_words : List (List ℕ × (TokenText → Lexeme))
type_words =
    (codes "unsigned", λ s. lexeme.Type word.Unsigned s) ∷
    (codes "signed", λ s. lexeme.Type word.Signed s) ∷
    (codes "short", λ s. lexeme.Type word.Short s) ∷
    (codes "long", λ s. lexeme.Type word.Long s) ∷
    (codes "int", λ s. lexeme.Type word.Int s) ∷
    (codes "char", λ s. lexeme.Type word.Char s) ∷
    (codes "bool", λ s. lexeme.Type word.Bool s) ∷
    (codes "_Bool", λ s. lexeme.Type word.Bool s) ∷
    (codes "float", λ s. lexeme.Type word.Float s) ∷
    (codes "double", λ s. lexeme.Type word.Double s) ∷
    (codes "void", λ s. lexeme.Type word.Void s) ∷ []

-- the words with a meaning of their own
abbrev own_words : List (List ℕ × (TokenText → Lexeme))
own_words =
    (codes "GTY", λ s. lexeme.Gty s) ∷
    (codes "struct", λ s. lexeme.Tag keyword.Struct s) ∷
    (codes "union", λ s. lexeme.Tag keyword.Union s) ∷
    (codes "enum", λ s. lexeme.Tag keyword.Enum s) ∷
    (codes "typedef", λ s. lexeme.Typedef s) ∷
    (codes "static", λ s. lexeme.Static s) ∷
    (codes "extern", λ s. lexeme.Extern s) ∷
    (codes "const", λ s. lexeme.Qualifier s) ∷
    (codes "volatile", λ s. lexeme.Qualifier s) ∷
    (codes "class", λ s. lexeme.Reserved s) ∷
    (codes "template", λ s. lexeme.Reserved s) ∷
    (codes "namespace", λ s. lexeme.Reserved s) ∷ []

-- the characters that are tokens by themselves
abbrev marks : List (List ℕ × (TokenText → Lexeme))
marks =
    (codes "(", λ s. lexeme.Open Round s) ∷
    (codes ")", λ s. lexeme.Close Round s) ∷
    (codes "[", λ s. lexeme.Open Square s) ∷
    (codes "]", λ s. lexeme.Close Square s) ∷
    (codes "{", λ s. lexeme.Open Brace s) ∷
    (codes "}", λ s. lexeme.Close Brace s) ∷
    (codes ";", λ s. lexeme.Semicolon s) ∷
    (codes ",", λ s. lexeme.Comma s) ∷
    (codes ":", λ s. lexeme.Colon s) ∷
    (codes "*", λ s. lexeme.Star s) ∷
    (codes "=", λ s. lexeme.Equals s) ∷
    (codes "<", λ s. lexeme.Less s) ∷
    (codes ">", λ s. lexeme.Greater s) ∷ []

type_named : (s : TokenText) → IsName s.word → Named (type_lexeme s)
unfolding type_lexeme
type_named s h = chosen_named type_words s (lexeme.Name s) (tt, (tt, (tt, (tt, (tt, (tt, (tt, (tt, (tt, (tt, (tt, tt))))))))))) h

identifier_named : (s : TokenText) → IsName s.word → Named (identifier_lexeme s)
unfolding identifier_lexeme
identifier_named s h = chosen_named own_words s (type_lexeme s) (tt, (tt, (tt, (tt, (tt, (tt, (tt, (tt, (tt, (tt, (tt, (tt, tt)))))))))))) (type_named s h)

mark_named : (s : TokenText) → Named (mark_lexeme s)
unfolding mark_lexeme
mark_named s = chosen_named marks s (lexeme.Other s) (tt, (tt, (tt, (tt, (tt, (tt, (tt, (tt, (tt, (tt, (tt, (tt, (tt, tt))))))))))))) tt

kind_named : (k : Kind) (s : TokenText) → (k ≡ kind.Ident → IsName s.word) → Named (lexeme_of k s)
kind_named kind.Ident s h = identifier_named s (h refl)
kind_named kind.Number s h = tt
kind_named kind.Quoted s h = tt
kind_named kind.CharLit s h = tt
kind_named kind.Punct s h = mark_named s

lexemes_named : (text : List ℕ) (tokens : List Token) → All (TokenNamed text) tokens → AreNamed (lexemes_of text tokens)
lexemes_named text [] h = tt
lexemes_named text (t ∷ tokens) h =
    (kind_named t.kind (spot_in text t) (All-head (TokenNamed text) t tokens h), lexemes_named text tokens (All-tail (TokenNamed text) t tokens h))

-- the tokens of a text
pub lexed_named : (text : List ℕ) (tokens : List Token) (defines : List Define) → IsLexed text tokens defines → AreNamed (lexemes_of text tokens)
lexed_named text tokens defines is = lexemes_named text tokens (tokens_named text tokens defines is)

-- ---- items

abbrev pub AreAllNamed : List (List Lexeme) → Type 0
AreAllNamed [] = Unit {0}
AreAllNamed (one ∷ items) = AreNamed one × AreAllNamed items

pub items_named : {wrappers : List ℕ} {ts : List Lexeme} {items : List (List Lexeme)} {end : End} → Searches wrappers ts items end → AreNamed ts → AreAllNamed items
items_named Searches.complete named = tt
items_named (Searches.wrapper {front = front} {ts = ts} brace w b more) named = items_named more (named_right front ts named)
items_named (Searches.closed_wrapper w s more) named = items_named more named.1
items_named (Searches.item {one = one} {ts = ts} b e more) named = (named_left one ts named, items_named more (named_right one ts named))
items_named (Searches.unmatched b s ts w begun un h) named = tt
items_named (Searches.unclosed_item t w begun) named = tt
items_named (Searches.unclosed_wrapper w) named = tt
