-- Where tokens and names lie in a text, it may be cut.
use Rattle.std.proofs.Common.{◌≡◌, ℕ, ◌+◌, ◌-◌, ◌/◌, ◌%◌, ◌<◌, ◌≤◌, Bool, true, false, cond, ltb, add-zero, List, [], ◌∷◌, ◌++◌, length, get_or, drop, refl, ap, subst, ◌∙◌, sym, append_assoc, arith, IsUtf8}
use Rattle.std.specs.Prelude.{All, slice_range, encode_utf8_all}
use Rattle.std.specs.List.{AllByRecursion}
use Rattle.std.specs.Str.{IsCharBoundary}
use Rattle.std.proofs.Math.Utf8.{encode}
use borrow.Author.Tests.{ltb-true}
use Rattle.std.proofs.lemmas.List.{take-append-drop, length-take-le, length-drop, drop-drop, get_or-drop}
use Rattle.std.proofs.lemmas.List.Elements.{All-from_recursion}
use Rattle.std.proofs.lemmas.Str.{IsUtf8-drop, IsUtf8-past_char, IsCharBoundary-from_drop}
use Rattle.gt_lex.specs.declared.tokens.Token.{Token}
use Rattle.gt_lex.specs.declared.tokens.Define.{Define}
use Rattle.gt_lex.specs.Spans.{AreSpans, token_spans, define_spans, IsSlice, IsNameSlice}

lead_cases : (one two three : Bool) (c x y z : ℕ) (xs ys zs rest : List ℕ) → (one ≡ true → c < 128) → 192 ≤ x → 192 ≤ y → 192 ≤ z
    → 128 ≤ get_or (cond one (c ∷ []) (cond two (x ∷ xs) (cond three (y ∷ ys) (z ∷ zs))) ++ rest) 0 0 → 192 ≤ get_or (cond one (c ∷ []) (cond two (x ∷ xs) (cond three (y ∷ ys) (z ∷ zs))) ++ rest) 0 0
lead_cases true two three c x y z xs ys zs rest small hx hy hz high = let lt : c < 128 = small refl in absurd (omega arith)
lead_cases false true three c x y z xs ys zs rest small hx hy hz high = hx
lead_cases false false true c x y z xs ys zs rest small hx hy hz high = hy
lead_cases false false false c x y z xs ys zs rest small hx hy hz high = hz

-- the first byte of a character is no later byte of another
lead : (c : ℕ) (rest : List ℕ) → 128 ≤ get_or (encode c ++ rest) 0 0 → 192 ≤ get_or (encode c ++ rest) 0 0
unfolding encode
lead c rest =
    lead_cases (ltb c 128) (ltb c 2048) (ltb c 65536) c (192 + c / 64) (224 + c / 4096) (240 + c / 262144) ((128 + c % 64) ∷ []) ((128 + (c / 64) % 64) ∷ (128 + c % 64) ∷ [])
    ((128 + (c / 4096) % 64) ∷ (128 + (c / 64) % 64) ∷ (128 + c % 64) ∷ []) rest (λ e. ltb-true c 128 e) (omega arith) (omega arith) (omega arith)

-- after some characters at its front a text goes on with whole characters
past_chars : (cs bs rest : List ℕ) → IsUtf8 bs → bs ≡ encode_utf8_all cs ++ rest → IsUtf8 rest
past_chars [] bs rest utf8 is = subst IsUtf8 is utf8
past_chars (c ∷ cs) bs rest utf8 is =
    past_chars cs (encode_utf8_all cs ++ rest) rest (IsUtf8-past_char bs (encode_utf8_all cs ++ rest) c utf8 (is ∙ append_assoc (encode c) (encode_utf8_all cs) rest)) refl

-- a text may be cut before some characters and after them
abbrev pub MayBeCut : List ℕ → ℕ → ℕ → Type 0
MayBeCut text start end = (start ≤ end) × IsCharBoundary text start × IsCharBoundary text end

starts : (cs : List ℕ) (bs rest : List ℕ) → bs ≡ encode_utf8_all cs ++ rest → 0 < length (encode_utf8_all cs) → 128 ≤ get_or bs 0 0 → 192 ≤ get_or bs 0 0
starts [] bs rest is some high = absurd (omega arith)
starts (c ∷ cs) bs rest is some high =
    let whole : bs ≡ encode c ++ (encode_utf8_all cs ++ rest) = is ∙ append_assoc (encode c) (encode_utf8_all cs) rest in
    let first : get_or bs 0 0 ≡ get_or (encode c ++ (encode_utf8_all cs ++ rest)) 0 0 = ap (λ bs. get_or bs 0 0) whole in
    omega (arith, first, lead c (encode_utf8_all cs ++ rest))

cut_at : (text : List ℕ) (start end : ℕ) (cs : List ℕ) → IsUtf8 text → start < end → end ≤ length text → slice_range text start end ≡ encode_utf8_all cs → MayBeCut text start end
cut_at text start end cs utf8 lt le is =
    let rest : List ℕ = drop (end - start) (drop start text) in
    let following : drop start text ≡ encode_utf8_all cs ++ rest = sym (take-append-drop (end - start) (drop start text)) ∙ ap (λ (front : List ℕ). front ++ rest) is in
    let len : length (encode_utf8_all cs) ≡ end - start =
    sym (ap length is) ∙ length-take-le (end - start) (drop start text) (omega (arith, length-drop start text)) in
    let byte : get_or (drop start text) 0 0 ≡ get_or text start 0 = get_or-drop start text 0 0 ∙ ap (λ (k : ℕ). get_or text k 0) (add-zero start) in
    let first : IsCharBoundary text start = (omega arith, λ _ high. rw (← byte) (starts cs (drop start text) rest following (omega arith) (omega (arith, byte)))) in
    let to : start + (end - start) ≡ end = omega arith in
    let from : rest ≡ drop end text = drop-drop (end - start) start text ∙ ap (λ (n : ℕ). drop n text) to in
    (omega arith, first, IsCharBoundary-from_drop text end le (subst IsUtf8 from (past_chars cs (drop start text) rest (IsUtf8-drop text start utf8 first) following)))

-- ---- spans

abbrev Within : ℕ → ℕ → ℕ → Type 0
Within to start end = (start < end) × (end ≤ to)

spans_reach : (from : ℕ) (ss : List (ℕ × ℕ)) (to : ℕ) → AreSpans from ss to → from ≤ to
spans_reach from [] to spans = spans
spans_reach from (s ∷ ss) to spans = omega (arith, spans.0, spans.1, spans_reach s.1 ss to spans.2)

tokens_within : (from : ℕ) (ts : List Token) (to : ℕ) → AreSpans from (token_spans ts) to → AllByRecursion (λ t. Within to t.start t.end) ts
tokens_within from [] to spans = tt
tokens_within from (t ∷ ts) to spans = ((spans.1, spans_reach t.end (token_spans ts) to spans.2), tokens_within t.end ts to spans.2)

defines_within : (from : ℕ) (ds : List Define) (to : ℕ) → AreSpans from (define_spans ds) to → AllByRecursion (λ d. Within to d.start d.end) ds
defines_within from [] to spans = tt
defines_within from (d ∷ ds) to spans = ((spans.1, spans_reach d.end (define_spans ds) to spans.2), defines_within d.end ds to spans.2)

pub token_cut : (text : List ℕ) (tokens : List Token) → IsUtf8 text → AreSpans 0 (token_spans tokens) (length text) → All (IsSlice text) tokens
    → (this : List ℕ) (these : List Token) → this ≡ text → these ≡ tokens → (k : ℕ) (d : Token) → k < length these → MayBeCut this (get_or these k d).start (get_or these k d).end
token_cut text tokens utf8 spans slices this these same are k d lt =
    let within = All-from_recursion (λ t. Within (length text) t.start t.end) tokens (tokens_within 0 tokens (length text) spans) k d (omega (arith, ap length are)) in
    let slice = slices k d (omega (arith, ap length are)) in
    subst (λ (text : List ℕ). MayBeCut text (get_or these k d).start (get_or these k d).end) (sym same)
    (subst (λ (ts : List Token). MayBeCut text (get_or ts k d).start (get_or ts k d).end) (sym are) (cut_at text (get_or tokens k d).start (get_or tokens k d).end slice.0 utf8 within.0 within.1 slice.1))

pub define_cut : (text : List ℕ) (defines : List Define) → IsUtf8 text → AreSpans 0 (define_spans defines) (length text) → All (IsNameSlice text) defines
    → (this : List ℕ) (these : List Define) → this ≡ text → these ≡ defines → (k : ℕ) (d : Define) → k < length these → MayBeCut this (get_or these k d).start (get_or these k d).end
define_cut text defines utf8 spans slices this these same are k d lt =
    let within = All-from_recursion (λ d. Within (length text) d.start d.end) defines (defines_within 0 defines (length text) spans) k d (omega (arith, ap length are)) in
    let slice = slices k d (omega (arith, ap length are)) in
    subst (λ (text : List ℕ). MayBeCut text (get_or these k d).start (get_or these k d).end) (sym same)
    (subst (λ (ds : List Define). MayBeCut text (get_or ds k d).start (get_or ds k d).end) (sym are) (cut_at text (get_or defines k d).start (get_or defines k d).end slice.0 utf8 within.0 within.1 slice.1))
