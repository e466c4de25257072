-- The names of constants are slices of the text, in order.
use Rattle.std.proofs.Common.{◌≡◌, ℕ, ◌+◌, ◌<◌, ◌≤◌, Bool, true, false, cond, codes, List, [], ◌∷◌, ◌++◌, length, Option, Some, None, ℤ, refl, sym, ap, subst, ◌∙◌, append_assoc, arith}
use Rattle.std.specs.Prelude.{◌&&◌, All, slice_range, encode_utf8_all}
use Rattle.std.specs.List.{AllByRecursion}
use Rattle.std.specs.Option.{option_to_list}
use Rattle.std.specs.Str.{bytes_eq}
use Rattle.std.proofs.lemmas.Str.{encodes-append}
use Rattle.std.proofs.lemmas.List.{length-append}
use Rattle.std.proofs.lemmas.List.Elements.{All-from_recursion}
use Rattle.gt_lex.specs.declared.tokens.Kind.{Kind}
use Rattle.gt_lex.specs.declared.tokens.Kind.TheVariants.{Ident, Number, Quoted, CharLit, Punct}
use Rattle.gt_lex.specs.declared.tokens.Token.{Token}
use Rattle.gt_lex.specs.declared.tokens.Define.{Define}
use Rattle.gt_lex.specs.Characters.{hash, byte_len}
use Rattle.gt_lex.specs.Extents.{Reaches, IsIdentifier}
use Rattle.gt_lex.specs.Parts.{Part, Space, Block, Line, Continuation, Item, Piece, Plain, Directive, spelling, spellings, piece_spelling, text_of}
use Rattle.gt_lex.specs.Constants.{Lexeme, lexeme_at, lexemes_from, is_name, constant, constant_of, value_of, negative_value_of}
use Rattle.gt_lex.specs.Texts.{AreInDirective, Stands, ArePieces, fresh_after, define_at, defines_from, IsLexed}
use Rattle.gt_lex.specs.Spans.{AreSpans, define_spans, IsOfKind, IsNameSlice}
use Rattle.gt_lex.proofs.Bools.{and_cases}
use Rattle.gt_lex.proofs.Offsets.{byte_len-append}
use Rattle.gt_lex.proofs.Directives.{spelling_positive}
use Rattle.gt_lex.proofs.Front.{one_byte}
use Rattle.gt_lex.proofs.Slices.{slice_after, of_kind, spans_lower, bytes_are, After, after_one, after_next}

-- ---- the name of a constant is one of its tokens

record Named (P : Lexeme → Type 0) (ts : List Lexeme) (d : Define) : Type 0 where
  name : Lexeme
  among : AllByRecursion P ts → P name
  kind : is_name name.kind ≡ true
  start_is : d.start ≡ name.start
  end_is : d.end ≡ name.start + length name.text

abbrev some : Define → Option Define
some d = Some d

some_is : (a b : Define) → some a ≡ some b → a ≡ b
some_is a b e = cc

constant_at : (name : Lexeme) (value : Option ℤ) (d : Define) → constant name value ≡ some d → (d.start ≡ name.start) × (d.end ≡ name.start + length name.text)
constant_at name None d e = absurd cc
constant_at name (Some value) d e =
    let same = some_is (record { start = name.start; end = name.start + length name.text; value = value }) d e in
    (ap (λ (x : Define). x.start) (sym same), ap (λ (x : Define). x.end) (sym same))

cond_some_of : (b : Bool) (o : Option Define) (d : Define) → cond b o None ≡ some d → (b ≡ true) × (o ≡ some d)
cond_some_of true o d e = (refl, e)
cond_some_of false o d e = absurd cc

three_named : (P : Lexeme → Type 0) (word name number : Lexeme) (d : Define) → constant_of (word ∷ name ∷ number ∷ []) ≡ some d → Named P (word ∷ name ∷ number ∷ []) d
three_named P word name number d e =
    let chosen = cond_some_of (bytes_eq word.text (codes "define") && is_name name.kind) (constant name (value_of number)) d e in
    let at = constant_at name (value_of number) d chosen.1 in
    record {
      name = name;
      among = λ all. all.1.0;
      kind = (and_cases (bytes_eq word.text (codes "define")) (is_name name.kind) chosen.0).1;
      start_is = at.0;
      end_is = at.1;
    }

four_named : (P : Lexeme → Type 0) (word name sign number : Lexeme) (d : Define) → constant_of (word ∷ name ∷ sign ∷ number ∷ []) ≡ some d → Named P (word ∷ name ∷ sign ∷ number ∷ []) d
four_named P word name sign number d e =
    let chosen = cond_some_of ((bytes_eq word.text (codes "define") && is_name name.kind) && bytes_eq sign.text (codes "-")) (constant name (negative_value_of number)) d e in
    let at = constant_at name (negative_value_of number) d chosen.1 in
    let both = and_cases (bytes_eq word.text (codes "define") && is_name name.kind) (bytes_eq sign.text (codes "-")) chosen.0 in
    record {
      name = name;
      among = λ all. all.1.0;
      kind = (and_cases (bytes_eq word.text (codes "define")) (is_name name.kind) both.0).1;
      start_is = at.0;
      end_is = at.1;
    }

constant_named : (P : Lexeme → Type 0) (ts : List Lexeme) (d : Define) → constant_of ts ≡ some d → Named P ts d
constant_named P [] d e = absurd cc
constant_named P (a ∷ []) d e = absurd cc
constant_named P (a ∷ b ∷ []) d e = absurd cc
constant_named P (a ∷ b ∷ c ∷ []) d e = three_named P a b c d e
constant_named P (a ∷ b ∷ c ∷ f ∷ []) d e = four_named P a b c f d e
constant_named P (a ∷ b ∷ c ∷ f ∷ g ∷ ts) d e = absurd cc

-- ---- the tokens of a directive are slices

record IsLexeme (text : List ℕ) (from to : ℕ) (t : Lexeme) : Type 0 where
  cs : List ℕ
  text_is : t.text ≡ encode_utf8_all cs
  of : IsOfKind t.kind cs
  positive : 0 < length t.text
  low : from ≤ t.start
  high : t.start + length t.text ≤ to
  slice : slice_range text t.start (t.start + length t.text) ≡ encode_utf8_all cs

-- a text with parts after a front, and more after them
abbrev Holds : List ℕ → List ℕ → List Part → List ℕ → Type 0
Holds text front ps back = text ≡ front ++ (encode_utf8_all (spellings ps) ++ back)

holds_one : (text front : List ℕ) (p : Part) (ps : List Part) (back : List ℕ) → Holds text front (p ∷ ps) back → text ≡ front ++ (encode_utf8_all (spelling p) ++ (encode_utf8_all (spellings ps) ++ back))
holds_one text front p ps back e =
    e ∙ ap (λ (x : List ℕ). front ++ x) (ap (λ (x : List ℕ). x ++ back) (encodes-append (spelling p) (spellings ps)) ∙ append_assoc (encode_utf8_all (spelling p)) (encode_utf8_all (spellings ps)) back)

holds_next : (text front : List ℕ) (p : Part) (ps : List Part) (back : List ℕ) → Holds text front (p ∷ ps) back → Holds text (front ++ encode_utf8_all (spelling p)) ps back
holds_next text front p ps back e = holds_one text front p ps back e ∙ sym (append_assoc front (encode_utf8_all (spelling p)) (encode_utf8_all (spellings ps) ++ back))

part_lexeme : (text front back : List ℕ) (from at to : ℕ) (p : Part) (ps : List Part) (rest : List ℕ) (ts : List Lexeme) → Holds text front (p ∷ ps) back → at ≡ length front → from ≤ at → at + byte_len (spelling p) ≤ to → Reaches p rest
    → AllByRecursion (IsLexeme text from to) ts → AllByRecursion (IsLexeme text from to) (lexeme_at at p ++ ts)
part_lexeme text front back from at to (Space c) ps rest ts e at_is low high reaches all = all
part_lexeme text front back from at to (Block inside) ps rest ts e at_is low high reaches all = all
part_lexeme text front back from at to (Line inside) ps rest ts e at_is low high reaches all = all
part_lexeme text front back from at to (Continuation end) ps rest ts e at_is low high reaches all = all
part_lexeme text front back from at to (Item kind cs) ps rest ts e at_is low high reaches all = (
  record {
    cs = cs;
    text_is = refl;
    of = of_kind kind cs rest reaches;
    positive = spelling_positive (Item kind cs) rest reaches;
    low = low;
    high = high;
    slice = slice_after text front (encode_utf8_all cs) (encode_utf8_all (spellings ps) ++ back) at (at + byte_len cs) (holds_one text front (Item kind cs) ps back e) at_is refl;
  },
  all,
)

lexemes_are : (text front back : List ℕ) (from at to : ℕ) (ps : List Part) (rest : List ℕ) → Holds text front ps back → at ≡ length front → from ≤ at → at + byte_len (spellings ps) ≤ to → AreInDirective ps rest → AllByRecursion (IsLexeme text from to) (lexemes_from at ps)
lexemes_are text front back from at to [] rest e at_is low high each = tt
lexemes_are text front back from at to (p ∷ ps) rest e at_is low high each =
    let len : byte_len (spellings (p ∷ ps)) ≡ byte_len (spelling p) + byte_len (spellings ps) = byte_len-append (spelling p) (spellings ps) in
    let next : at + byte_len (spelling p) ≡ length (front ++ encode_utf8_all (spelling p)) = omega (arith, length-append front (encode_utf8_all (spelling p))) in
    part_lexeme text front back from at to p ps (spellings ps ++ rest) (lexemes_from (at + byte_len (spelling p)) ps) e at_is low (omega arith) each.1
    (lexemes_are text (front ++ encode_utf8_all (spelling p)) back from (at + byte_len (spelling p)) to ps rest (holds_next text front p ps back e) next (omega arith) (omega arith) each.2)

-- ---- the constants

-- a constant's name is a slice within two offsets
record IsNameWithin (text : List ℕ) (from to : ℕ) (d : Define) : Type 0 where
  low : from ≤ d.start
  positive : d.start < d.end
  high : d.end ≤ to
  slice : IsNameSlice text d

identifier_of : (kind : Kind) (cs : List ℕ) → is_name kind ≡ true → IsOfKind kind cs → IsIdentifier cs
identifier_of Ident cs e is = is
identifier_of Number cs e is = absurd cc
identifier_of Quoted cs e is = absurd cc
identifier_of CharLit cs e is = absurd cc
identifier_of Punct cs e is = absurd cc

name_within : (text : List ℕ) (from to : ℕ) (ts : List Lexeme) (d : Define) → AllByRecursion (IsLexeme text from to) ts → Named (IsLexeme text from to) ts d → IsNameWithin text from to d
name_within text from to ts d all named =
    let is = named.among all in
    let name = named.name in
    let start_is = named.start_is in
    let end_is = named.end_is in
    let low = is.low in
    let high = is.high in
    let positive = is.positive in
    record {
      low = omega arith;
      positive = omega arith;
      high = omega arith;
      slice = (is.cs, ap (λ n. slice_range text n d.end) start_is ∙ ap (slice_range text name.start) end_is ∙ is.slice, identifier_of name.kind is.cs named.kind is.of);
    }

-- the constant of a directive that begins at an offset
directive_name : (text front back : List ℕ) (at to : ℕ) (ps : List Part) (rest : List ℕ) (d : Define) → Holds text front ps back → at ≡ length front → at + byte_len (spellings ps) ≤ to → AreInDirective ps rest → constant_of (lexemes_from at ps) ≡ some d → IsNameWithin text at to d
directive_name text front back at to ps rest d e at_is high each is =
    name_within text at to (lexemes_from at ps) d (lexemes_are text front back at at to ps rest e at_is (omega arith) high each) (constant_named (IsLexeme text at to) (lexemes_from at ps) d is)

-- the constants of pieces from an offset on: in order, and slices
record AreNames (text : List ℕ) (from to : ℕ) (ds : List Define) : Type 0 where
  order : AreSpans from (define_spans ds) to
  slices : AllByRecursion (IsNameSlice text) ds

no_names : (text : List ℕ) (low from to : ℕ) (ds : List Define) → low ≤ from → AreNames text from to ds → AreNames text low to ds
no_names text low from to ds le names = record { order = spans_lower low from to (define_spans ds) le names.order; slices = names.slices }

with_name : (text : List ℕ) (at next to : ℕ) (d : Define) (ds : List Define) → IsNameWithin text (at + 1) next d → AreNames text next to ds → AreNames text at to (d ∷ ds)
with_name text at next to d ds is names =
    let low = is.low in
    let high = is.high in
    record {
      order = (omega arith, is.positive, spans_lower d.end next to (define_spans ds) high names.order);
      slices = (is.slice, names.slices);
    }

optional_name : (text : List ℕ) (at next to : ℕ) (o : Option Define) (ds : List Define) → at ≤ next → ((d : Define) → o ≡ some d → IsNameWithin text (at + 1) next d) → AreNames text next to ds → AreNames text at to (option_to_list o ++ ds)
optional_name text at next to None ds le is names = no_names text at next to ds le names
optional_name text at next to (Some d) ds le is names = with_name text at next to d ds (is d refl) names

-- after the `#`
holds_directive : (text front : List ℕ) (qs : List Part) (ps : List Piece) → After text front (Directive qs ∷ ps) → Holds text (front ++ encode_utf8_all (hash ∷ [])) qs (encode_utf8_all (text_of ps))
holds_directive text front qs ps e =
    after_one text front (Directive qs) ps e
    ∙ ap (λ (x : List ℕ). front ++ x) (ap (λ (x : List ℕ). x ++ encode_utf8_all (text_of ps)) (encodes-append (hash ∷ []) (spellings qs)) ∙ append_assoc (encode_utf8_all (hash ∷ [])) (encode_utf8_all (spellings qs)) (encode_utf8_all (text_of ps)))
    ∙ sym (append_assoc front (encode_utf8_all (hash ∷ [])) (encode_utf8_all (spellings qs) ++ encode_utf8_all (text_of ps)))

hash_len : (qs : List Part) → byte_len (piece_spelling (Directive qs)) ≡ 1 + byte_len (spellings qs)
hash_len qs = byte_len-append (hash ∷ []) (spellings qs) ∙ ap (λ n. n + byte_len (spellings qs)) one_byte

piece_names : (text front : List ℕ) (at to : ℕ) (fresh : Bool) (p : Piece) (ps : List Piece) (rest : List ℕ) (ds : List Define) → After text front (p ∷ ps) → at ≡ length front → Stands fresh p rest → AreNames text (at + byte_len (piece_spelling p)) to ds → AreNames text at to (define_at at p ++ ds)
piece_names text front at to fresh (Plain p) ps rest ds e at_is stands names = no_names text at (at + byte_len (spelling p)) to ds (omega arith) names
piece_names text front at to fresh (Directive qs) ps rest ds e at_is stands names =
    let len = hash_len qs in
    let following : at + 1 ≡ length (front ++ encode_utf8_all (hash ∷ [])) = omega (arith, length-append front (encode_utf8_all (hash ∷ [])), one_byte) in
    optional_name text at (at + byte_len (piece_spelling (Directive qs))) to (constant_of (lexemes_from (at + 1) qs)) ds (omega arith)
    (λ d is. directive_name text (front ++ encode_utf8_all (hash ∷ [])) (encode_utf8_all (text_of ps)) (at + 1) (at + byte_len (piece_spelling (Directive qs))) qs rest d (holds_directive text front qs ps e) following (omega arith) stands.1 is)
    names

names_from : (text front : List ℕ) (at : ℕ) (fresh : Bool) (ps : List Piece) (rest : List ℕ) → After text front ps → at ≡ length front → ArePieces fresh ps rest → AreNames text at (at + byte_len (text_of ps)) (defines_from at ps)
names_from text front at fresh [] rest e at_is each = record { order = omega arith; slices = tt }
names_from text front at fresh (p ∷ ps) rest e at_is each =
    let total : at + byte_len (piece_spelling p) + byte_len (text_of ps) ≡ at + byte_len (text_of (p ∷ ps)) = omega (arith, byte_len-append (piece_spelling p) (text_of ps)) in
    let next : at + byte_len (piece_spelling p) ≡ length (front ++ encode_utf8_all (piece_spelling p)) = omega (arith, length-append front (encode_utf8_all (piece_spelling p))) in
    piece_names text front at (at + byte_len (text_of (p ∷ ps))) fresh p ps (text_of ps ++ rest) (defines_from (at + byte_len (piece_spelling p)) ps) e at_is each.0
    (subst (λ (n : ℕ). AreNames text (at + byte_len (piece_spelling p)) n (defines_from (at + byte_len (piece_spelling p)) ps)) total
    (names_from text (front ++ encode_utf8_all (piece_spelling p)) (at + byte_len (piece_spelling p)) (fresh_after fresh p) ps rest (after_next text front p ps e) next each.1))

names_of : (text : List ℕ) (tokens : List Token) (defines : List Define) → IsLexed text tokens defines → AreNames text 0 (length text) defines
names_of text tokens defines is =
    let len : 0 + byte_len (text_of is.pieces) ≡ length text = omega (arith, ap length (bytes_are text is.pieces is.utf8 is.whole)) in
    subst (λ (ds : List Define). AreNames text 0 (length text) ds) (sym is.defines_are)
    (subst (λ (n : ℕ). AreNames text 0 n (defines_from 0 is.pieces)) len (names_from text [] 0 true is.pieces [] (bytes_are text is.pieces is.utf8 is.whole) refl is.each))

pub names_in_order : (text : List ℕ) (tokens : List Token) (defines : List Define) → IsLexed text tokens defines → AreSpans 0 (define_spans defines) (length text)
names_in_order text tokens defines is = (names_of text tokens defines is).order

pub names_are_slices : (text : List ℕ) (tokens : List Token) (defines : List Define) → IsLexed text tokens defines → All (IsNameSlice text) defines
names_are_slices text tokens defines is = All-from_recursion (IsNameSlice text) defines (names_of text tokens defines is).slices
