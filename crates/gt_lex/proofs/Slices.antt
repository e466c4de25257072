-- The tokens of a text are slices of it, in order, and between them is what is no token.
use Rattle.std.proofs.Common.{◌≡◌, ℕ, ◌+◌, ◌-◌, ◌<◌, ◌≤◌, Bool, true, false, List, [], ◌∷◌, ◌++◌, length, take, drop, refl, sym, ap, subst, ◌∙◌, append_assoc, arith, IsUtf8}
use Rattle.std.specs.Prelude.{not, All, slice_range, encode_utf8_all, IsTrue}
use Rattle.std.specs.List.{list_all, AllByRecursion}
use Rattle.std.specs.Str.{chars}
use Rattle.std.proofs.lemmas.Str.{encodes-append, encodes-chars}
use Rattle.std.proofs.lemmas.List.{append-nil, length-append, take_at, drop_at}
use Rattle.std.proofs.lemmas.List.Elements.{All-from_recursion}
use Rattle.gt_lex.specs.declared.tokens.Kind.{Kind}
use Rattle.gt_lex.specs.declared.tokens.Kind.TheVariants.{Ident, Number, Quoted, CharLit, Punct}
use Rattle.gt_lex.specs.declared.tokens.Token.{Token}
use Rattle.gt_lex.specs.declared.tokens.Define.{Define}
use Rattle.gt_lex.specs.Characters.{byte_len}
use Rattle.gt_lex.specs.Extents.{Reaches}
use Rattle.gt_lex.specs.Parts.{Space, Block, Line, Continuation, Item, Piece, Plain, Directive, piece_spelling, text_of}
use Rattle.gt_lex.specs.Texts.{Stands, ArePieces, fresh_after, fresh_past, is_token, token_at, tokens_from, IsLexed}
use Rattle.gt_lex.specs.Spans.{AreSpans, token_spans, IsOfKind, IsSlice, IsGap, AreApart}
use Rattle.gt_lex.proofs.Offsets.{byte_len-append}
use Rattle.gt_lex.proofs.Scanning.{piece_positive, ArePieces-push, text_of-push, fresh_past-push}
use Rattle.gt_lex.proofs.Bools.{and_cases}

-- ---- in order

pub spans_lower : (low from to : ℕ) (ss : List (ℕ × ℕ)) → low ≤ from → AreSpans from ss to → AreSpans low ss to
spans_lower low from to [] le spans = omega arith
spans_lower low from to (s ∷ ss) le spans = let first = spans.0 in (omega arith, spans.1, spans.2)

piece_spans : (at to : ℕ) (p : Piece) (ts : List Token) → 0 < byte_len (piece_spelling p) → AreSpans (at + byte_len (piece_spelling p)) (token_spans ts) to → AreSpans at (token_spans (token_at at p ++ ts)) to
piece_spans at to (Plain (Space c)) ts positive spans = spans_lower at (at + byte_len (piece_spelling (Plain (Space c)))) to (token_spans ts) (omega arith) spans
piece_spans at to (Plain (Block inside)) ts positive spans = spans_lower at (at + byte_len (piece_spelling (Plain (Block inside)))) to (token_spans ts) (omega arith) spans
piece_spans at to (Plain (Line inside)) ts positive spans = spans_lower at (at + byte_len (piece_spelling (Plain (Line inside)))) to (token_spans ts) (omega arith) spans
piece_spans at to (Plain (Continuation end)) ts positive spans = spans_lower at (at + byte_len (piece_spelling (Plain (Continuation end)))) to (token_spans ts) (omega arith) spans
piece_spans at to (Plain (Item kind cs)) ts positive spans = (omega arith, omega arith, spans)
piece_spans at to (Directive ps) ts positive spans = spans_lower at (at + byte_len (piece_spelling (Directive ps))) to (token_spans ts) (omega arith) spans

spans_from : (fresh : Bool) (at : ℕ) (ps : List Piece) (rest : List ℕ) → ArePieces fresh ps rest → AreSpans at (token_spans (tokens_from at ps)) (at + byte_len (text_of ps))
spans_from fresh at [] rest each = omega arith
spans_from fresh at (p ∷ ps) rest each =
    let total : at + byte_len (piece_spelling p) + byte_len (text_of ps) ≡ at + byte_len (text_of (p ∷ ps)) = omega (arith, byte_len-append (piece_spelling p) (text_of ps)) in
    piece_spans at (at + byte_len (text_of (p ∷ ps))) p (tokens_from (at + byte_len (piece_spelling p)) ps) (piece_positive fresh p (text_of ps ++ rest) each.0)
    (subst (λ (n : ℕ). AreSpans (at + byte_len (piece_spelling p)) (token_spans (tokens_from (at + byte_len (piece_spelling p)) ps)) n) total
    (spans_from (fresh_after fresh p) (at + byte_len (piece_spelling p)) ps rest each.1))

-- the bytes of a text are those of its pieces
pub bytes_are : (text : List ℕ) (ps : List Piece) → IsUtf8 text → chars text ≡ text_of ps → text ≡ encode_utf8_all (text_of ps)
bytes_are text ps utf8 e = sym (encodes-chars text utf8) ∙ ap encode_utf8_all e

pub tokens_in_order : (text : List ℕ) (tokens : List Token) (defines : List Define) → IsLexed text tokens defines → AreSpans 0 (token_spans tokens) (length text)
tokens_in_order text tokens defines is =
    let len : 0 + byte_len (text_of is.pieces) ≡ length text = omega (arith, ap length (bytes_are text is.pieces is.utf8 is.whole)) in
    subst (λ (ts : List Token). AreSpans 0 (token_spans ts) (length text)) (sym is.tokens_are)
    (subst (λ (n : ℕ). AreSpans 0 (token_spans (tokens_from 0 is.pieces)) n) len (spans_from true 0 is.pieces [] is.each))

-- ---- slices

-- what stands after a front, as many bytes as it has
pub slice_after : (text front middle back : List ℕ) (from to : ℕ) → text ≡ front ++ (middle ++ back) → from ≡ length front → to ≡ from + length middle → slice_range text from to ≡ middle
slice_after text front middle back from to e from_is to_is =
    let n : length middle ≡ to - from = omega arith in
    ap (λ (x : List ℕ). take (to - from) (drop from x)) e
    ∙ ap (take (to - from)) (drop_at front (middle ++ back) from (sym from_is))
    ∙ take_at middle back (to - from) n

pub of_kind : (kind : Kind) (cs rest : List ℕ) → Reaches (Item kind cs) rest → IsOfKind kind cs
of_kind Ident cs rest is = is.fits
of_kind Number cs rest is = is.fits
of_kind Quoted cs rest is = is
of_kind CharLit cs rest is = is
of_kind Punct cs rest is = is

-- text that begins with a front and goes on with pieces
abbrev pub After : List ℕ → List ℕ → List Piece → Type 0
After text front ps = text ≡ front ++ encode_utf8_all (text_of ps)

pub after_one : (text front : List ℕ) (p : Piece) (ps : List Piece) → After text front (p ∷ ps) → text ≡ front ++ (encode_utf8_all (piece_spelling p) ++ encode_utf8_all (text_of ps))
after_one text front p ps e = e ∙ ap (λ (x : List ℕ). front ++ x) (encodes-append (piece_spelling p) (text_of ps))

pub after_next : (text front : List ℕ) (p : Piece) (ps : List Piece) → After text front (p ∷ ps) → After text (front ++ encode_utf8_all (piece_spelling p)) ps
after_next text front p ps e = after_one text front p ps e ∙ sym (append_assoc front (encode_utf8_all (piece_spelling p)) (encode_utf8_all (text_of ps)))

piece_slices : (text front : List ℕ) (at : ℕ) (fresh : Bool) (p : Piece) (ps : List Piece) (rest : List ℕ) (ts : List Token) → After text front (p ∷ ps) → at ≡ length front → Stands fresh p rest → AllByRecursion (IsSlice text) ts → AllByRecursion (IsSlice text) (token_at at p ++ ts)
piece_slices text front at fresh (Plain (Space c)) ps rest ts e at_is stands all = all
piece_slices text front at fresh (Plain (Block inside)) ps rest ts e at_is stands all = all
piece_slices text front at fresh (Plain (Line inside)) ps rest ts e at_is stands all = all
piece_slices text front at fresh (Plain (Continuation end)) ps rest ts e at_is stands all = all
piece_slices text front at fresh (Plain (Item kind cs)) ps rest ts e at_is stands all =
    ((cs, slice_after text front (encode_utf8_all cs) (encode_utf8_all (text_of ps)) at (at + byte_len cs) (after_one text front (Plain (Item kind cs)) ps e) at_is refl, of_kind kind cs rest stands.1), all)
piece_slices text front at fresh (Directive qs) ps rest ts e at_is stands all = all

slices_from : (text front : List ℕ) (at : ℕ) (fresh : Bool) (ps : List Piece) (rest : List ℕ) → After text front ps → at ≡ length front → ArePieces fresh ps rest → AllByRecursion (IsSlice text) (tokens_from at ps)
slices_from text front at fresh [] rest e at_is each = tt
slices_from text front at fresh (p ∷ ps) rest e at_is each =
    let next : at + byte_len (piece_spelling p) ≡ length (front ++ encode_utf8_all (piece_spelling p)) = omega (arith, length-append front (encode_utf8_all (piece_spelling p))) in
    piece_slices text front at fresh p ps (text_of ps ++ rest) (tokens_from (at + byte_len (piece_spelling p)) ps) e at_is each.0
    (slices_from text (front ++ encode_utf8_all (piece_spelling p)) (at + byte_len (piece_spelling p)) (fresh_after fresh p) ps rest (after_next text front p ps e) next each.1)

pub tokens_are_slices : (text : List ℕ) (tokens : List Token) (defines : List Define) → IsLexed text tokens defines → All (IsSlice text) tokens
tokens_are_slices text tokens defines is =
    subst (λ (ts : List Token). All (IsSlice text) ts) (sym is.tokens_are)
    (All-from_recursion (IsSlice text) (tokens_from 0 is.pieces) (slices_from text [] 0 true is.pieces [] (bytes_are text is.pieces is.utf8 is.whole) refl is.each))

-- ---- between

abbrev AllGaps : List Piece → Type 0
AllGaps gaps = IsTrue (list_all (λ p. not (is_token p)) gaps)

AllGaps-push : (gaps : List Piece) (p : Piece) → AllGaps gaps → is_token p ≡ false → AllGaps (gaps ++ p ∷ [])
AllGaps-push [] p all e = rw e refl
AllGaps-push (g ∷ gaps) p all e =
    let both = and_cases (not (is_token g)) (list_all (λ q. not (is_token q)) gaps) all in
    rw (both.0, AllGaps-push gaps p both.1 e) refl

apart_piece : (text : List ℕ) (from at : ℕ) (p : Piece) (ts : List Token) → IsGap (slice_range text from at) → (is_token p ≡ false → AreApart text from ts) → (is_token p ≡ true → AreApart text (at + byte_len (piece_spelling p)) ts) → AreApart text from (token_at at p ++ ts)
apart_piece text from at (Plain (Space c)) ts gap on next = on refl
apart_piece text from at (Plain (Block inside)) ts gap on next = on refl
apart_piece text from at (Plain (Line inside)) ts gap on next = on refl
apart_piece text from at (Plain (Continuation end)) ts gap on next = on refl
apart_piece text from at (Plain (Item kind cs)) ts gap on next = (gap, next refl)
apart_piece text from at (Directive ps) ts gap on next = on refl

-- text that begins with a front, goes on with gaps, and then with pieces
record Between (text front : List ℕ) (from at : ℕ) (fresh : Bool) (gaps ps : List Piece) (rest : List ℕ) : Type 0 where
  parts : text ≡ front ++ (encode_utf8_all (text_of gaps) ++ encode_utf8_all (text_of ps))
  from_is : from ≡ length front
  at_is : at ≡ from + byte_len (text_of gaps)
  gaps_stand : ArePieces fresh gaps (text_of ps ++ rest)
  gaps_all : AllGaps gaps
  stand : ArePieces (fresh_past fresh gaps) ps rest

pieces_pushed : (gaps : List Piece) (p : Piece) → encode_utf8_all (text_of (gaps ++ p ∷ [])) ≡ encode_utf8_all (text_of gaps) ++ encode_utf8_all (piece_spelling p)
pieces_pushed gaps p =
    ap encode_utf8_all (sym (append-nil (text_of (gaps ++ p ∷ []))) ∙ text_of-push gaps p [] ∙ ap (λ (x : List ℕ). text_of gaps ++ x) (append-nil (piece_spelling p)))
    ∙ encodes-append (text_of gaps) (piece_spelling p)

-- one more gap
more_gap : (text front : List ℕ) (from at : ℕ) (fresh : Bool) (gaps : List Piece) (p : Piece) (ps : List Piece) (rest : List ℕ) → Between text front from at fresh gaps (p ∷ ps) rest → is_token p ≡ false
    → Between text front from (at + byte_len (piece_spelling p)) fresh (gaps ++ p ∷ []) ps rest
more_gap text front from at fresh gaps p ps rest b is =
    let pushed : encode_utf8_all (text_of (gaps ++ p ∷ [])) ≡ encode_utf8_all (text_of gaps) ++ encode_utf8_all (piece_spelling p) = pieces_pushed gaps p in
    record {
      parts = b.parts
          ∙ ap (λ (x : List ℕ). front ++ x)
          (ap (λ (x : List ℕ). encode_utf8_all (text_of gaps) ++ x) (encodes-append (piece_spelling p) (text_of ps)) ∙ sym (append_assoc (encode_utf8_all (text_of gaps)) (encode_utf8_all (piece_spelling p)) (encode_utf8_all (text_of ps)))
          ∙ ap (λ (x : List ℕ). x ++ encode_utf8_all (text_of ps)) (sym pushed));
      from_is = b.from_is;
      at_is = omega (arith, b.at_is, ap length pushed, length-append (encode_utf8_all (text_of gaps)) (encode_utf8_all (piece_spelling p)));
      gaps_stand = ArePieces-push fresh gaps p (text_of ps ++ rest) (subst (λ (x : List ℕ). ArePieces fresh gaps x) (append_assoc (piece_spelling p) (text_of ps) rest) b.gaps_stand) b.stand.0;
      gaps_all = AllGaps-push gaps p b.gaps_all is;
      stand = subst (λ (f : Bool). ArePieces f ps rest) (sym (fresh_past-push fresh gaps p)) b.stand.1;
    }

-- a token after the gaps
past_token : (text front : List ℕ) (from at : ℕ) (fresh : Bool) (gaps : List Piece) (p : Piece) (ps : List Piece) (rest : List ℕ) → Between text front from at fresh gaps (p ∷ ps) rest
    → Between text (front ++ (encode_utf8_all (text_of gaps) ++ encode_utf8_all (piece_spelling p))) (at + byte_len (piece_spelling p)) (at + byte_len (piece_spelling p)) (fresh_after (fresh_past fresh gaps) p) [] ps rest
past_token text front from at fresh gaps p ps rest b = record {
  parts = b.parts
      ∙ ap (λ (x : List ℕ). front ++ x) (ap (λ (x : List ℕ). encode_utf8_all (text_of gaps) ++ x) (encodes-append (piece_spelling p) (text_of ps)) ∙ sym (append_assoc (encode_utf8_all (text_of gaps)) (encode_utf8_all (piece_spelling p)) (encode_utf8_all (text_of ps))))
      ∙ sym (append_assoc front (encode_utf8_all (text_of gaps) ++ encode_utf8_all (piece_spelling p)) (encode_utf8_all (text_of ps)));
  from_is = omega (arith, b.at_is, b.from_is, length-append front (encode_utf8_all (text_of gaps) ++ encode_utf8_all (piece_spelling p)), length-append (encode_utf8_all (text_of gaps)) (encode_utf8_all (piece_spelling p)));
  at_is = omega arith;
  gaps_stand = tt;
  gaps_all = refl;
  stand = b.stand.1;
}

gap_here : (text front : List ℕ) (from at : ℕ) (fresh : Bool) (gaps ps : List Piece) (rest : List ℕ) → Between text front from at fresh gaps ps rest → IsGap (slice_range text from at)
gap_here text front from at fresh gaps ps rest b =
    (fresh, gaps, text_of ps ++ rest, b.gaps_stand, b.gaps_all, slice_after text front (encode_utf8_all (text_of gaps)) (encode_utf8_all (text_of ps)) from at b.parts b.from_is b.at_is)

last_gap : (text front : List ℕ) (from at : ℕ) (fresh : Bool) (gaps : List Piece) (rest : List ℕ) → Between text front from at fresh gaps [] rest → IsGap (drop from text)
last_gap text front from at fresh gaps rest b =
    let following : drop from text ≡ encode_utf8_all (text_of gaps) =
    ap (drop from) b.parts ∙ drop_at front (encode_utf8_all (text_of gaps) ++ []) from (sym b.from_is) ∙ append-nil (encode_utf8_all (text_of gaps)) in
    (fresh, gaps, rest, b.gaps_stand, b.gaps_all, following)

apart_from : (text front : List ℕ) (from at : ℕ) (fresh : Bool) (gaps ps : List Piece) (rest : List ℕ) → Between text front from at fresh gaps ps rest → AreApart text from (tokens_from at ps)
apart_from text front from at fresh gaps [] rest b = last_gap text front from at fresh gaps rest b
apart_from text front from at fresh gaps (p ∷ ps) rest b =
    apart_piece text from at p (tokens_from (at + byte_len (piece_spelling p)) ps) (gap_here text front from at fresh gaps (p ∷ ps) rest b)
    (λ is. apart_from text front from (at + byte_len (piece_spelling p)) fresh (gaps ++ p ∷ []) ps rest (more_gap text front from at fresh gaps p ps rest b is))
    (λ is. apart_from text (front ++ (encode_utf8_all (text_of gaps) ++ encode_utf8_all (piece_spelling p))) (at + byte_len (piece_spelling p)) (at + byte_len (piece_spelling p)) (fresh_after (fresh_past fresh gaps) p) [] ps rest (past_token text front from at fresh gaps p ps rest b))

pub tokens_apart : (text : List ℕ) (tokens : List Token) (defines : List Define) → IsLexed text tokens defines → AreApart text 0 tokens
tokens_apart text tokens defines is =
    subst (λ (ts : List Token). AreApart text 0 ts) (sym is.tokens_are)
    (apart_from text [] 0 0 true [] is.pieces []
    (record { parts = bytes_are text is.pieces is.utf8 is.whole; from_is = refl; at_is = omega arith; gaps_stand = tt; gaps_all = refl; stand = is.each }))
