-- Leaves written one after another.
use Rattle.std.proofs.Common.{◌≡◌, ◌⊎◌, ℕ, suc, ◌+◌, ◌-◌, ◌*◌, ◌/◌, ◌%◌, ◌<◌, ◌≤◌, Bool, true, false, ◌&&◌, ◌||◌, nat_le, nat_lt, List, [], ◌∷◌, ◌++◌, length, get_or, refl, ap, sym, subst, ◌∙◌, arith, inl, inr}
use Rattle.std.specs.Prelude.{pos}
use Rattle.std.specs.List.{list_any}
use Rattle.std.proofs.lemmas.Bool.{le-leb, lt-leb, lt-ltb, le-ltb}
use Rattle.std.proofs.lemmas.List.Elements.{filter-append}
use Rattle.gt_space.specs.Range.{Range, KeepsAddresses, with_bytes}
use Rattle.gt_space.proofs.RangeLemmas.{with_bytes-append, length-with_bytes}
use Rattle.gt_tree.specs.Leaves.{Leaf, Content, leaf, Number, byte_leaves, content_bits, bit_of, is_set_in}
use Rattle.gt_tree.specs.FixedLaws.{bit_in}
use Rattle.gt_value.specs.Bytes.{itself}
use Rattle.gt_store.specs.Overlays.{covers, Overlays, is_written, written, Rises, LieIn}
use Rattle.gt_store.specs.Writing.{Writes}
use Rattle.gt_store.proofs.BitLemmas.{below-or, keeps-keeps, writes-byte, writes-bytes}

-- ---- which bits a leaf covers

covers-before : (l : Leaf) (j : ℕ) → j < l.at → covers j l ≡ false
covers-before l j lt = ap (λ b. b && nat_lt j (l.at + l.width)) (lt-leb l.at j lt)

and-false : (b : Bool) → (b && false) ≡ false
and-false true = refl
and-false false = refl

covers-after : (l : Leaf) (j : ℕ) → l.at + l.width ≤ j → covers j l ≡ false
covers-after l j le = ap (λ b. nat_le l.at j && b) (le-ltb j (l.at + l.width) le) ∙ and-false (nat_le l.at j)

covers-inside : (l : Leaf) (j : ℕ) → l.at ≤ j → j < l.at + l.width → covers j l ≡ true
covers-inside l j low high = ap (λ b. b && nat_lt j (l.at + l.width)) (le-leb l.at j low) ∙ lt-ltb j (l.at + l.width) high

-- where a bit lies by whether a leaf covers it
covered : (l : Leaf) (j : ℕ) → covers j l ≡ true → (l.at ≤ j) × (j < l.at + l.width)
covered l j c = go (below-or j l.at) (below-or j (l.at + l.width))
  where
    go : (j < l.at) ⊎ (l.at ≤ j) → (j < l.at + l.width) ⊎ (l.at + l.width ≤ j) → (l.at ≤ j) × (j < l.at + l.width)
    go (inl lt) h = let no = covers-before l j lt in absurd (cc)
    go (inr le) (inl lt) = (le, lt)
    go (inr le) (inr far) = let no = covers-after l j far in absurd (cc)

uncovered : (l : Leaf) (j : ℕ) → covers j l ≡ false → (j < l.at) ⊎ (l.at + l.width ≤ j)
uncovered l j c = go (below-or j l.at) (below-or j (l.at + l.width))
  where
    go : (j < l.at) ⊎ (l.at ≤ j) → (j < l.at + l.width) ⊎ (l.at + l.width ≤ j) → (j < l.at) ⊎ (l.at + l.width ≤ j)
    go (inl lt) h = inl lt
    go (inr le) (inr far) = inr far
    go (inr le) (inl lt) = let yes = covers-inside l j le lt in absurd (cc)

pub set-of : (l : Leaf) (j : ℕ) → l.at ≤ j → j < l.at + l.width → is_set_in itself j l ≡ bit_of (content_bits itself l.width l.content) (j - l.at)
set-of l j low high = ap (λ b. b && bit_of (content_bits itself l.width l.content) (j - l.at)) (covers-inside l j low high)

unset-of : (l : Leaf) (j : ℕ) → covers j l ≡ false → is_set_in itself j l ≡ false
unset-of l j c = ap (λ b. b && bit_of (content_bits itself l.width l.content) (j - l.at)) c

pub or-false : (b : Bool) → (b || false) ≡ b
or-false true = refl
or-false false = refl

or-left : (a b : Bool) → (a || b) ≡ false → a ≡ false
or-left true b e = absurd (cc)
or-left false b e = refl

or-right : (a b : Bool) → (a || b) ≡ false → b ≡ false
or-right true b e = absurd (cc)
or-right false b e = e

pub any-append : (p : Leaf → Bool) (xs ys : List Leaf) → list_any p (xs ++ ys) ≡ (list_any p xs || list_any p ys)
any-append p [] ys = refl
any-append p (x ∷ xs) ys = ap (λ b. p x || b) (any-append p xs ys) ∙ or-assoc (p x) (list_any p xs) (list_any p ys)
  where
    or-assoc : (a b c : Bool) → (a || (b || c)) ≡ ((a || b) || c)
    or-assoc true b c = refl
    or-assoc false b c = refl

pub none-set : (ls : List Leaf) (j : ℕ) → list_any (covers j) ls ≡ false → list_any (is_set_in itself j) ls ≡ false
none-set [] j c = refl
none-set (l ∷ ls) j c =
    let here = unset-of l j (or-left (covers j l) (list_any (covers j) ls) c) in
    let rest = none-set ls j (or-right (covers j l) (list_any (covers j) ls) c) in
    ap (λ b. b || list_any (is_set_in itself j) ls) here ∙ rest

-- ---- one leaf

pub overlays-none : (r : Range) → Overlays [] r r
overlays-none r = record { addresses = record { start = refl; len = refl }; small = λ old. old; inside = λ j c. absurd (cc); outside = λ j c. refl }

pub overlays-one : (a b : Range) (at width : ℕ) (content : Content) (bits : ℕ) → bits ≡ content_bits itself width content → Writes at width bits a b → Overlays (leaf at width content ∷ []) a b
overlays-one a b at width content bits is w = record {
  addresses = w.addresses;
  small = w.small;
  inside = λ j c.
      let place = covered (leaf at width content) j (or-first j c) in
      w.inside j place.0 place.1
      ∙ ap (λ n. bit_of n (j - at)) is
      ∙ sym (set-of (leaf at width content) j place.0 place.1)
      ∙ sym (or-false (is_set_in itself j (leaf at width content)));
  outside = λ j c. w.outside j (uncovered (leaf at width content) j (or-left (covers j (leaf at width content)) false c));
}
  where
    or-first : (j : ℕ) → (covers j (leaf at width content) || false) ≡ true → covers j (leaf at width content) ≡ true
    or-first j c = sym (or-false (covers j (leaf at width content))) ∙ c

-- ---- one after another

pub rises-le : (from : ℕ) (ls : List Leaf) (end : ℕ) → Rises from ls end → from ≤ end
rises-le from [] end h = h
rises-le from (l ∷ ls) end h =
    let rest : l.at + l.width ≤ end = rises-le (l.at + l.width) ls end h.1 in
    let first : from ≤ l.at = h.0 in
    omega arith

pub rises-from : (low from : ℕ) (ls : List Leaf) (end : ℕ) → low ≤ from → Rises from ls end → Rises low ls end
rises-from low from [] end le h = omega (arith, le, h)
rises-from low from (l ∷ ls) end le h = let first : from ≤ l.at = h.0 in (omega (arith, le, first), h.1)

pub rises-end : (from : ℕ) (ls : List Leaf) (end high : ℕ) → end ≤ high → Rises from ls end → Rises from ls high
rises-end from [] end high le h = omega (arith, le, h)
rises-end from (l ∷ ls) end high le h = (h.0, rises-end (l.at + l.width) ls end high le h.1)

pub rises-split : (from : ℕ) (ls ms : List Leaf) (end : ℕ) → Rises from (ls ++ ms) end → (mid : ℕ) × Rises from ls mid × Rises mid ms end
rises-split from [] ms end h = (from, omega arith, h)
rises-split from (l ∷ ls) ms end h =
    let rest = rises-split (l.at + l.width) ls ms end h.1 in
    let first : from ≤ l.at = h.0 in
    (rest.0, (first, rest.1), rest.2)

pub any-low : (from : ℕ) (ls : List Leaf) (end j : ℕ) → Rises from ls end → j < from → list_any (covers j) ls ≡ false
any-low from [] end j h lt = refl
any-low from (l ∷ ls) end j h lt =
    let first : from ≤ l.at = h.0 in
    ap (λ b. b || list_any (covers j) ls) (covers-before l j (omega (arith, lt, first))) ∙ any-low (l.at + l.width) ls end j h.1 (omega (arith, lt, first))

pub any-high : (from : ℕ) (ls : List Leaf) (end j : ℕ) → Rises from ls end → end ≤ j → list_any (covers j) ls ≡ false
any-high from [] end j h le = refl
any-high from (l ∷ ls) end j h le =
    let last : l.at + l.width ≤ end = rises-le (l.at + l.width) ls end h.1 in
    ap (λ b. b || list_any (covers j) ls) (covers-after l j (omega (arith, le, last))) ∙ any-high (l.at + l.width) ls end j h.1 le

pub overlays-both : (a b c : Range) (from mid end : ℕ) (ls ms : List Leaf) → Rises from ls mid → Rises mid ms end → Overlays ls a b → Overlays ms b c → Overlays (ls ++ ms) a c
overlays-both a b c from mid end ls ms p q x y = record {
  addresses = keeps-keeps x.addresses y.addresses;
  small = λ old. y.small (x.small old);
  inside = λ j t. inside j (sym (any-append (covers j) ls ms) ∙ t) (below-or j mid);
  outside = λ j f.
      let both = sym (any-append (covers j) ls ms) ∙ f in
      y.outside j (or-right (list_any (covers j) ls) (list_any (covers j) ms) both) ∙ x.outside j (or-left (list_any (covers j) ls) (list_any (covers j) ms) both);
}
  where
    first-true : (u v : Bool) → (u || v) ≡ true → v ≡ false → u ≡ true
    first-true true v e f = refl
    first-true false v e f = absurd (cc)

    second-true : (u v : Bool) → (u || v) ≡ true → u ≡ false → v ≡ true
    second-true true v e f = absurd (cc)
    second-true false v e f = e

    inside : (j : ℕ) → (list_any (covers j) ls || list_any (covers j) ms) ≡ true → (j < mid) ⊎ (mid ≤ j) → bit_in c.bytes j ≡ list_any (is_set_in itself j) (ls ++ ms)
    inside j t (inl lt) =
        let none = any-low mid ms end j q lt in
        let unset = none-set ms j none in
        y.outside j none
        ∙ x.inside j (first-true (list_any (covers j) ls) (list_any (covers j) ms) t none)
        ∙ sym (or-false (list_any (is_set_in itself j) ls))
        ∙ ap (λ z. list_any (is_set_in itself j) ls || z) (sym unset)
        ∙ sym (any-append (is_set_in itself j) ls ms)
    inside j t (inr le) =
        let none = any-high from ls mid j p le in
        let unset = none-set ls j none in
        y.inside j (second-true (list_any (covers j) ls) (list_any (covers j) ms) t none)
        ∙ ap (λ z. z || list_any (is_set_in itself j) ms) (sym unset)
        ∙ sym (any-append (is_set_in itself j) ls ms)

-- ---- the leaves that are written, of two lists

pub written-append : (ls ms : List Leaf) → written (ls ++ ms) ≡ written ls ++ written ms
written-append ls ms = filter-append is_written ls ms

pub lie-both : (range : Range) (ls ms : List Leaf) → LieIn range (ls ++ ms) → LieIn range ls × LieIn range ms
lie-both range ls ms h =
    let parts = rises-split 0 (written ls) (written ms) (8 * length range.bytes) (subst (λ xs. Rises 0 xs (8 * length range.bytes)) (written-append ls ms) h) in
    let last = rises-le parts.0 (written ms) (8 * length range.bytes) parts.2 in
    (rises-end 0 (written ls) parts.0 (8 * length range.bytes) last parts.1, rises-from 0 parts.0 (written ms) (8 * length range.bytes) (omega arith) parts.2)

pub written-both : (a b c : Range) (ls ms : List Leaf) → LieIn a (ls ++ ms) → Overlays (written ls) a b → Overlays (written ms) b c → Overlays (written (ls ++ ms)) a c
written-both a b c ls ms h x y =
    let parts = rises-split 0 (written ls) (written ms) (8 * length a.bytes) (subst (λ xs. Rises 0 xs (8 * length a.bytes)) (written-append ls ms) h) in
    subst (λ xs. Overlays xs a c) (sym (written-append ls ms)) (overlays-both a b c 0 parts.0 (8 * length a.bytes) (written ls) (written ms) parts.1 parts.2 x y)

pub lie-same : (a b : Range) (ls : List Leaf) → KeepsAddresses a b → LieIn a ls → LieIn b ls
lie-same a b ls k h = subst (λ n. Rises 0 (written ls) (8 * n)) (sym k.len) h

-- ---- bytes that are never scanned

bytes-rise : (at : ℕ) (bytes : List ℕ) → Rises at (byte_leaves at bytes) (at + 8 * length bytes)
bytes-rise at [] = omega arith
bytes-rise at (byte ∷ bytes) =
    let low : at ≤ at = omega arith in
    let e : (at + 8) + 8 * length bytes ≡ at + 8 * suc (length bytes) = omega arith in
    (low, subst (Rises (at + 8) (byte_leaves (at + 8) bytes)) e (bytes-rise (at + 8) bytes))

keeps-with : (r : Range) (at : ℕ) (bs : List ℕ) → at % 8 ≡ 0 → at + 8 * length bs ≤ 8 * length r.bytes → KeepsAddresses r (with_bytes r (r.start + at / 8) bs)
keeps-with r at bs whole fits = record {
  start = refl;
  len = length-with_bytes r (r.start + at / 8) bs (record { from_start = omega arith; to_end = omega (arith, whole, fits) });
}

overlays-no_bytes : (r new : Range) (at bits : ℕ) → Writes at 0 bits r new → Overlays [] r new
overlays-no_bytes r new at bits w = record {
  addresses = w.addresses;
  small = w.small;
  inside = λ j c. absurd (cc);
  outside = λ j c. w.outside j (elim (below-or j at) [ inl lt ↦ inl lt | inr le ↦ inr (omega (arith, le)) ]);
}

pub overlays-bytes : (bytes : List ℕ) (r : Range) (at : ℕ) → at % 8 ≡ 0 → at + 8 * length bytes ≤ 8 * length r.bytes → ((k : ℕ) → get_or bytes k 0 < 256)
    → Overlays (byte_leaves at bytes) r (with_bytes r (r.start + at / 8) bytes)
overlays-bytes [] r at whole fits small =
    overlays-no_bytes r (with_bytes r (r.start + at / 8) []) at 0
    (writes-bytes r at 0 [] whole fits small (λ k i lt low. absurd (omega (arith, lt))) (with_bytes r (r.start + at / 8) []) refl (keeps-with r at [] whole fits))
overlays-bytes (byte ∷ bytes) r at whole fits small =
    let one : Range = with_bytes r (r.start + at / 8) (byte ∷ []) in
    let keeps : KeepsAddresses r one = keeps-with r at (byte ∷ []) whole (omega (arith, fits)) in
    let long : length one.bytes ≡ length r.bytes = keeps.len in
    let w = writes-byte r at byte whole (omega (arith, fits)) (small 0) one refl keeps in
    let x = overlays-one r one at 8 (Number (pos byte)) byte refl w in
    let whole_next : (at + 8) % 8 ≡ 0 = omega (arith, whole) in
    let y = overlays-bytes bytes one (at + 8) whole_next (omega (arith, fits, long)) (λ k. small (suc k)) in
    let next : (r.start + at / 8) + 1 ≡ r.start + (at + 8) / 8 = omega (arith, whole) in
    let joined : with_bytes one (r.start + (at + 8) / 8) bytes ≡ with_bytes r (r.start + at / 8) (byte ∷ bytes) =
    ap (λ a. with_bytes one a bytes) (sym next)
    ∙ with_bytes-append r (r.start + at / 8) (byte ∷ []) bytes (record { from_start = omega arith; to_end = omega (arith, whole, fits) }) in
    let low : at ≤ at = omega arith in
    let here : Rises at (leaf at 8 (Number (pos byte)) ∷ []) (at + 8) = (low, omega arith) in
    subst (Overlays (byte_leaves at (byte ∷ bytes)) r) joined
    (overlays-both r one (with_bytes one (r.start + (at + 8) / 8) bytes) at (at + 8) ((at + 8) + 8 * length bytes) (leaf at 8 (Number (pos byte)) ∷ []) (byte_leaves (at + 8) bytes) here (bytes-rise (at + 8) bytes) x y)
