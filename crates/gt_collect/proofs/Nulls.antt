-- Leaves of which some pointers are made null, one at each of some words.
use Rattle.std.proofs.Common.{◌≡◌, ℕ, ◌+◌, ◌-◌, ◌*◌, ◌/◌, ◌%◌, ◌^◌, ◌<◌, ◌≤◌, Bool, true, false, ◌&&◌, ◌||◌, nat_le, nat_lt, List, [], ◌∷◌, ◌++◌, take, drop, None, refl, ap, ap₂, sym, subst, ◌∙◌, inl, inr, arith}
use Rattle.std.specs.Prelude.{◌⊎◌, ◌==◌, All, Contains, slice_index}
use Rattle.std.specs.List.{list_any}
use Rattle.std.proofs.lemmas.Bool.{lt-leb, le-ltb}
use Rattle.std.proofs.lemmas.List.{places}
use Rattle.std.proofs.lemmas.List.Elements.{All-contains, All-get_or, All-head, All-tail}
use Rattle.gt_space.specs.Range.{Range, IsInside, IsSpace, bytes_at, with_bytes}
use Rattle.gt_space.proofs.RangeLemmas.{length-bytes_at}
use Rattle.gt_tree.specs.Leaves.{Leaf, leaf, Content, Pointer, bit_of, content_bits, is_set_in, Stand}
use Rattle.gt_tree.specs.LeafLaws.{LieInOrder, AreBytesOf}
use Rattle.gt_tree.specs.FixedLaws.{bit_in}
use Rattle.gt_tree.proofs.FixedBits.{leaves-read, same_bits}
use Rattle.gt_objects.proofs.Items.{all_by, first_there, later_there, none_there, there_cases}
use Rattle.gt_collect.proofs.Zeros.{AreInside, IsNoneOf, none_or_one, with_form, zeroed, zeroed_apart, zeroed_keeps, zeroed_there}

-- Some leaves are null pointers now, in order one at each word, where the bits of leaves are counted from an address. The others are as
-- before.
pub data Nulled (start : ℕ) : List ℕ → List Leaf → List Leaf → Type 0 where
  none : Nulled start [] [] []
  same : {words : List ℕ} {old new : List Leaf} {l : Leaf} → Nulled start words old new → Nulled start words (l ∷ old) (l ∷ new)
  null : {words : List ℕ} {old new : List Leaf} {word at : ℕ} {content : Content} → 8 * word ≡ 8 * start + at → Nulled start words old new
      → Nulled start (word ∷ words) (leaf at 64 content ∷ old) (leaf at 64 (Pointer None) ∷ new)

pub all_same : {start : ℕ} (leaves : List Leaf) → Nulled start [] leaves leaves
all_same [] = Nulled.none
all_same (l ∷ leaves) = Nulled.same (all_same leaves)

pub nulled_both : {start : ℕ} {words more : List ℕ} {old new olds news : List Leaf} → Nulled start words old new → Nulled start more olds news → Nulled start (words ++ more) (old ++ olds) (new ++ news)
nulled_both Nulled.none rest = rest
nulled_both (Nulled.same first) rest = Nulled.same (nulled_both first rest)
nulled_both (Nulled.null lies first) rest = Nulled.null lies (nulled_both first rest)

-- at each word there is a null pointer
nulled_there : {start : ℕ} {words : List ℕ} {old new : List Leaf} → Nulled start words old new → (w : ℕ) → Contains words w
    → (at : ℕ) × (8 * w ≡ 8 * start + at) × Contains new (leaf at 64 (Pointer None))
nulled_there Nulled.none w there = none_there w there
nulled_there (Nulled.same {new} {l} first) w there =
    let found = nulled_there first w there in
    (found.0, found.1, later_there l new (leaf found.0 64 (Pointer None)) found.2)
nulled_there {start} (Nulled.null {words} {new} {word} {at} lies first) w there = elim (there_cases word words w there) [
  | inl is ↦ (at, subst (λ x. 8 * x ≡ 8 * start + at) is lies, first_there (leaf at 64 (Pointer None)) new)
  | inr later ↦
      let found = nulled_there first w later in
      (found.0, found.1, later_there (leaf at 64 (Pointer None)) new (leaf found.0 64 (Pointer None)) found.2)
]

-- ---- bits

middle_false : (a c : Bool) → (a && false && c) ≡ false
middle_false true true = refl
middle_false true false = refl
middle_false false true = refl
middle_false false false = refl

-- a bit that is none of a leaf is not set in it
outside_leaf : (address : ℕ → ℕ) (l : Leaf) (i : ℕ) → (i < l.at) ⊎ (l.at + l.width ≤ i) → is_set_in address i l ≡ false
outside_leaf address l i (inl before) = ap (λ b. b && nat_lt i (l.at + l.width) && bit_of (content_bits address l.width l.content) (i - l.at)) (lt-leb l.at i before)
outside_leaf address l i (inr after) =
    ap (λ b. nat_le l.at i && b && bit_of (content_bits address l.width l.content) (i - l.at)) (le-ltb i (l.at + l.width) after)
    ∙ middle_false (nat_le l.at i) (bit_of (content_bits address l.width l.content) (i - l.at))

outside_word : (start at word k j : ℕ) → 8 * word ≡ 8 * start + at → IsNoneOf (start + k) word → j < 8 → (8 * k + j < at) ⊎ (at + 64 ≤ 8 * k + j)
outside_word start at word k j lies (inl before) low = inl (omega (arith, lies, before, low))
outside_word start at word k j lies (inr after) low = inr (omega (arith, lies, after, low))

-- the bits of a byte that is none of the words are set as before
nulled_apart : {start : ℕ} {words : List ℕ} {old new : List Leaf} (address : ℕ → ℕ) (k j : ℕ) → Nulled start words old new → All (IsNoneOf (start + k)) words → j < 8
    → list_any (is_set_in address (8 * k + j)) old ≡ list_any (is_set_in address (8 * k + j)) new
nulled_apart address k j Nulled.none away low = refl
nulled_apart address k j (Nulled.same {l} first) away low = ap (λ b. is_set_in address (8 * k + j) l || b) (nulled_apart address k j first away low)
nulled_apart {start} address k j (Nulled.null {words} {word} {at} {content} lies first) away low =
    let out = outside_word start at word k j lies (All-head (IsNoneOf (start + k)) word words away) low in
    ap₂ (λ a b. a || b) (outside_leaf address (leaf at 64 content) (8 * k + j) out ∙ sym (outside_leaf address (leaf at 64 (Pointer None)) (8 * k + j) out))
    (nulled_apart address k j first (All-tail (IsNoneOf (start + k)) word words away) low)

-- ---- bytes

no_quotient : (n : ℕ) → 0 / n ≡ 0
no_quotient n = omega arith

no_bit : (i : ℕ) → bit_of 0 i ≡ false
no_bit i = ap (λ n. n % 2 == 1) (no_quotient (2 ^ i))

-- the bit of a byte, by its place among all bits
bit_here : (bytes : List ℕ) (k j : ℕ) → j < 8 → bit_of (slice_index bytes ((8 * k + j) / 8)) ((8 * k + j) % 8) ≡ bit_of (slice_index bytes k) j
bit_here bytes k j low =
    let byte : (8 * k + j) / 8 ≡ k = omega (arith, low) in
    let bit : (8 * k + j) % 8 ≡ j = omega (arith, low) in
    ap₂ (λ q i. bit_of (slice_index bytes q) i) byte bit

at_start : (xs : List ℕ) (at size k : ℕ) → at ≡ 0 → k < size → slice_index (take size (drop at xs)) k ≡ slice_index xs k
at_start xs at size k nothing low = grind (arith, places)

module _ (start size : ℕ) (words : List ℕ) (old new : List Leaf) (nulled : Nulled start words old new) (placed : LieInOrder 0 (8 * size) new) where
  -- the words lie in the bits of the leaves
  pub word_within : (w : ℕ) → Contains words w → (start ≤ w) × (w + 8 ≤ start + size)
  word_within w there =
      let found = nulled_there nulled w there in
      let lies = found.1 in
      let within = All-contains (λ l. (0 ≤ l.at) × (l.at + l.width ≤ 8 * size)) new (leaf found.0 64 (Pointer None)) placed.inside found.2 in
      (omega (arith, lies, within.1), omega (arith, lies, within.1))

  -- and so in the bytes from there on
  pub words_inside : (range : Range) → range.start ≡ start → IsInside range range.start size → AreInside range words
  words_inside range starts inside = all_by (λ w. IsInside range w 8) words (λ w there.
      let within = word_within w there in
      let end = inside.to_end in
      record { from_start = omega (arith, starts, within.0); to_end = omega (arith, starts, end, within.1) })

  module _ (form : List ℕ) (is : AreBytesOf (λ address. address) new size form) where
    form_bit : (k j : ℕ) → k < size → j < 8 → bit_of (slice_index form k) j ≡ list_any (is_set_in (λ address. address) (8 * k + j)) new
    form_bit k j within low =
        let long = is.long in
        sym (bit_here form k j low) ∙ is.stand (8 * k + j) (omega (arith, long, within, low))

    -- a byte of a word is zero in the form
    form_zero : (w k : ℕ) → k < size → Contains words w → w ≤ start + k → start + k < w + 8 → slice_index form k ≡ 0
    form_zero w k within there from below =
        let found = nulled_there nulled w there in
        let lies = found.1 in
        let long = is.long in
        let read = All-contains (λ l. (i : ℕ) → i < l.width → bit_in form (l.at + i) ≡ bit_of (content_bits (λ address. address) l.width l.content) i) new (leaf found.0 64 (Pointer None))
        (leaves-read (λ address. address) 0 (8 * size) new form placed (omega (arith, long)) is.stand) found.2 in
        same_bits 8 (slice_index form k) 0 (All-get_or (λ byte. byte < 256) form k 0 (omega (arith, long, within)) is.small) (omega arith) (λ j low.
        let at : found.0 + (8 * k + j - found.0) ≡ 8 * k + j = omega (arith, lies, from, low) in
        sym (bit_here form k j low) ∙ ap (bit_in form) (sym at) ∙ read (8 * k + j - found.0) (omega (arith, lies, from, below, low)) ∙ no_bit (8 * k + j - found.0) ∙ sym (no_bit j))

    module _ (range : Range) (starts : range.start ≡ start) (space : IsSpace range) (inside : IsInside range range.start size) (stands : Stand (λ address. address) old (bytes_at range range.start size)) where
      old_bit : (k j : ℕ) → k < size → j < 8 → bit_of (slice_index range.bytes k) j ≡ list_any (is_set_in (λ address. address) (8 * k + j)) old
      old_bit k j within low =
          let long = length-bytes_at range range.start size inside in
          let none : range.start - range.start ≡ 0 = omega arith in
          ap (λ b. bit_of b j) (sym (at_start range.bytes (range.start - range.start) size k none within)) ∙ sym (bit_here (bytes_at range range.start size) k j low)
          ∙ stands (8 * k + j) (omega (arith, long, within, low))

      first_bytes : (k : ℕ) → k < size → slice_index (zeroed range words).bytes k ≡ slice_index form k
      first_bytes k within = elim (none_or_one words (range.start + k)) [
        | inr one ↦ zeroed_there words range one.0 k (words_inside range starts inside) one.1 one.2 one.3 ∙ sym (form_zero one.0 k within one.1 (omega (arith, starts, one.2)) (omega (arith, starts, one.3)))
        | inl away ↦
            zeroed_apart words range k (words_inside range starts inside) away
            ∙ same_bits 8 (slice_index range.bytes k) (slice_index form k) (space.bytes k) (All-get_or (λ byte. byte < 256) form k 0 (let long = is.long in omega (arith, long, within)) is.small)
            (λ j low. old_bit k j within low ∙ nulled_apart (λ address. address) k j nulled (subst (λ a. All (IsNoneOf (a + k)) words) starts away) low ∙ sym (form_bit k j within low))
      ]

      other_bytes : (k : ℕ) → size ≤ k → slice_index (zeroed range words).bytes k ≡ slice_index range.bytes k
      other_bytes k past =
          zeroed_apart words range k (words_inside range starts inside)
          (all_by (IsNoneOf (range.start + k)) words (λ w there. let within = word_within w there in inr (omega (arith, starts, past, within.1))))

      -- With zeros at the words, the bytes are those that stand for the new leaves, and all others are as before.
      pub zeroed_stored : zeroed range words ≡ with_bytes range range.start form
      zeroed_stored =
          let long = is.long in
          let end = inside.to_end in
          with_form range (zeroed range words) form (zeroed_keeps words range (words_inside range starts inside)) (omega (arith, long, end))
          (λ k low. first_bytes k (omega (arith, long, low))) (λ k past. other_bytes k (omega (arith, long, past)))
