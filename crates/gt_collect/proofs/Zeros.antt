-- Bytes of a range in which some words are made zero.
use Rattle.std.proofs.Common.{◌≡◌, ℕ, zero, suc, ◌+◌, ◌-◌, ◌<◌, ◌≤◌, List, [], ◌∷◌, ◌++◌, length, take, drop, refl, ap, ap₂, sym, ◌∙◌, inl, inr, arith}
use Rattle.std.specs.Prelude.{◌⊎◌, All, Contains, replicate, slice_index}
use Rattle.std.proofs.lemmas.List.{places, ext_get_or}
use Rattle.std.proofs.lemmas.List.Elements.{All-cons, All-head, All-nil, All-tail, All-weaker}
use Rattle.std.proofs.lemmas.Bool.{cases_lt}
use Rattle.gt_space.specs.Range.{Range, IsInside, KeepsAddresses, with_bytes}
use Rattle.gt_space.proofs.RangeLemmas.{length-with_bytes}
use Rattle.gt_collect.specs.Clearing.{IsInWord, IsZeroedAt}
use Rattle.gt_objects.proofs.Items.{first_there, later_there, none_there, there_cases}

-- the range in which the eight bytes at each of these addresses are zero, one word after another
abbrev pub zeroed : Range → List ℕ → Range
zeroed r [] = r
zeroed r (w ∷ ws) = zeroed (with_bytes r w (replicate 8 0)) ws

-- a byte is none of a word
abbrev pub IsNoneOf : ℕ → ℕ → Type 0
IsNoneOf address w = (address < w) ⊎ (w + 8 ≤ address)

-- words lie in a range
abbrev pub AreInside : Range → List ℕ → Type 0
AreInside r ws = All (λ w. IsInside r w 8) ws

-- ---- one word

byte_before : (xs : List ℕ) (at k : ℕ) → at + 8 ≤ length xs → k < at → slice_index (take at xs ++ replicate 8 0 ++ drop (at + 8) xs) k ≡ slice_index xs k
byte_before xs at k fits before = grind (arith, places)

byte_after : (xs : List ℕ) (at k : ℕ) → at + 8 ≤ length xs → at + 8 ≤ k → slice_index (take at xs ++ replicate 8 0 ++ drop (at + 8) xs) k ≡ slice_index xs k
byte_after xs at k fits after = grind (arith, places)

byte_in : (xs : List ℕ) (at k : ℕ) → at + 8 ≤ length xs → at ≤ k → k < at + 8 → slice_index (take at xs ++ replicate 8 0 ++ drop (at + 8) xs) k ≡ 0
byte_in xs at k fits from below = grind (arith, places)

-- ---- words, one after another

pub inside_after : (old new : Range) (address n : ℕ) → KeepsAddresses old new → IsInside old address n → IsInside new address n
inside_after old new address n keeps inside =
    let start = keeps.start in
    let len = keeps.len in
    record { from_start = omega (arith, start, inside.from_start); to_end = omega (arith, start, len, inside.to_end) }

one_keeps : (r : Range) (w : ℕ) → IsInside r w 8 → KeepsAddresses r (with_bytes r w (replicate 8 0))
one_keeps r w inside = record { start = refl; len = length-with_bytes r w (replicate 8 0) inside }

all_inside : (r : Range) (w : ℕ) (ws : List ℕ) → AreInside r (w ∷ ws) → AreInside (with_bytes r w (replicate 8 0)) ws
all_inside r w ws inside =
    let one = All-head (λ v. IsInside r v 8) w ws inside in
    All-weaker (λ v. IsInside r v 8) (λ v. IsInside (with_bytes r w (replicate 8 0)) v 8) (λ v is. inside_after r (with_bytes r w (replicate 8 0)) v 8 (one_keeps r w one) is) ws
    (All-tail (λ v. IsInside r v 8) w ws inside)

fits_at : (r : Range) (w : ℕ) → IsInside r w 8 → w - r.start + 8 ≤ length r.bytes
fits_at r w inside = omega (arith, inside.from_start, inside.to_end)

pub zeroed_keeps : (ws : List ℕ) (r : Range) → AreInside r ws → KeepsAddresses r (zeroed r ws)
zeroed_keeps [] r inside = record { start = refl; len = refl }
zeroed_keeps (w ∷ ws) r inside =
    let rest = zeroed_keeps ws (with_bytes r w (replicate 8 0)) (all_inside r w ws inside) in
    let one = one_keeps r w (All-head (λ v. IsInside r v 8) w ws inside) in
    record { start = rest.start; len = rest.len ∙ one.len }

-- one word more
pub zeroed_more : (ws : List ℕ) (i : ℕ) (r : Range) → i < length ws → zeroed r (take (i + 1) ws) ≡ with_bytes (zeroed r (take i ws)) (slice_index ws i) (replicate 8 0)
zeroed_more [] i r low = absurd (let no : i < 0 = low in omega (arith, no))
zeroed_more (w ∷ ws) zero r low = refl
zeroed_more (w ∷ ws) (suc i) r low =
    let next : suc i + 1 ≡ suc (i + 1) = omega arith in
    ap (λ n. zeroed r (take n (w ∷ ws))) next ∙ zeroed_more ws i (with_bytes r w (replicate 8 0)) (omega (arith, low))

-- ---- bytes

apart_one : (r : Range) (w k : ℕ) → IsInside r w 8 → IsNoneOf (r.start + k) w → slice_index (with_bytes r w (replicate 8 0)).bytes k ≡ slice_index r.bytes k
apart_one r w k inside (inl before) = byte_before r.bytes (w - r.start) k (fits_at r w inside) (omega (arith, inside.from_start, before))
apart_one r w k inside (inr after) = byte_after r.bytes (w - r.start) k (fits_at r w inside) (omega (arith, inside.from_start, after))

in_one : (r : Range) (w k : ℕ) → IsInside r w 8 → w ≤ r.start + k → r.start + k < w + 8 → slice_index (with_bytes r w (replicate 8 0)).bytes k ≡ 0
in_one r w k inside from below = byte_in r.bytes (w - r.start) k (fits_at r w inside) (omega (arith, inside.from_start, from)) (omega (arith, inside.from_start, below))

-- a byte lies in a word, or does not
none_or_in : (address w : ℕ) → IsNoneOf address w ⊎ ((w ≤ address) × (address < w + 8))
none_or_in address w = elim (cases_lt address w) [
  | inl before ↦ inl (inl before)
  | inr from ↦ elim (cases_lt address (w + 8)) [
    | inl below ↦ inr (from, below)
    | inr after ↦ inl (inr after)
  ]
]

stays_one : (r : Range) (w k : ℕ) → IsInside r w 8 → slice_index r.bytes k ≡ 0 → slice_index (with_bytes r w (replicate 8 0)).bytes k ≡ 0
stays_one r w k inside was = elim (none_or_in (r.start + k) w) [
  | inl away ↦ apart_one r w k inside away ∙ was
  | inr there ↦ in_one r w k inside there.0 there.1
]

-- a byte of none of the words is as before
pub zeroed_apart : (ws : List ℕ) (r : Range) (k : ℕ) → AreInside r ws → All (IsNoneOf (r.start + k)) ws → slice_index (zeroed r ws).bytes k ≡ slice_index r.bytes k
zeroed_apart [] r k inside none = refl
zeroed_apart (w ∷ ws) r k inside none =
    zeroed_apart ws (with_bytes r w (replicate 8 0)) k (all_inside r w ws inside) (All-tail (IsNoneOf (r.start + k)) w ws none)
    ∙ apart_one r w k (All-head (λ v. IsInside r v 8) w ws inside) (All-head (IsNoneOf (r.start + k)) w ws none)

zeroed_stays : (ws : List ℕ) (r : Range) (k : ℕ) → AreInside r ws → slice_index r.bytes k ≡ 0 → slice_index (zeroed r ws).bytes k ≡ 0
zeroed_stays [] r k inside was = was
zeroed_stays (w ∷ ws) r k inside was =
    zeroed_stays ws (with_bytes r w (replicate 8 0)) k (all_inside r w ws inside) (stays_one r w k (All-head (λ v. IsInside r v 8) w ws inside) was)

-- a byte of one of the words is zero
pub zeroed_there : (ws : List ℕ) (r : Range) (w k : ℕ) → AreInside r ws → Contains ws w → w ≤ r.start + k → r.start + k < w + 8 → slice_index (zeroed r ws).bytes k ≡ 0
zeroed_there [] r w k inside there from below = none_there w there
zeroed_there (v ∷ ws) r w k inside there from below = elim (there_cases v ws w there) [
  | inl same ↦
      zeroed_stays ws (with_bytes r v (replicate 8 0)) k (all_inside r v ws inside)
      (in_one r v k (All-head (λ v. IsInside r v 8) v ws inside) (omega (arith, same, from)) (omega (arith, same, below)))
  | inr later ↦ zeroed_there ws (with_bytes r v (replicate 8 0)) w k (all_inside r v ws inside) later from below
]

-- each byte is one of a word, or of none
pub none_or_one : (ws : List ℕ) (address : ℕ) → All (IsNoneOf address) ws ⊎ ((w : ℕ) × Contains ws w × (w ≤ address) × (address < w + 8))
none_or_one [] address = inl (All-nil (IsNoneOf address))
none_or_one (w ∷ ws) address = elim (none_or_in address w) [
  | inr there ↦ inr (w, first_there w ws, there.0, there.1)
  | inl none ↦ elim (none_or_one ws address) [
    | inl others ↦ inl (All-cons (IsNoneOf address) w ws none others)
    | inr one ↦ inr (one.0, later_there w ws one.0 one.1, one.2, one.3)
  ]
]

-- the words are zero, and all other bytes are as before
pub zeroed_at : (ws : List ℕ) (r : Range) → AreInside r ws → IsZeroedAt ws r (zeroed r ws)
zeroed_at ws r inside = record {
  addresses = zeroed_keeps ws r inside;
  zero = λ k one. zeroed_there ws r one.0 k inside one.1 one.2 one.3;
  others = λ k none. zeroed_apart ws r k inside (away k none (none_or_one ws (r.start + k)));
}
  where
    away : (k : ℕ) → ¬ IsInWord ws r k → All (IsNoneOf (r.start + k)) ws ⊎ ((w : ℕ) × Contains ws w × (w ≤ r.start + k) × (r.start + k < w + 8)) → All (IsNoneOf (r.start + k)) ws
    away k none (inl all) = all
    away k none (inr one) = absurd (none one)

-- ---- a form at the start

form_before : (xs form : List ℕ) (at k : ℕ) → at ≡ 0 → length form ≤ length xs → k < length form → slice_index (take at xs ++ form ++ drop (at + length form) xs) k ≡ slice_index form k
form_before xs form at k none fits low = grind (arith, places)

form_after : (xs form : List ℕ) (at k : ℕ) → at ≡ 0 → length form ≤ length xs → length form ≤ k → slice_index (take at xs ++ form ++ drop (at + length form) xs) k ≡ slice_index xs k
form_after xs form at k none fits high = grind (arith, places)

-- Ranges with the same first bytes, and the others as before, are the same.
pub with_form : (old new : Range) (form : List ℕ) → KeepsAddresses old new → length form ≤ length old.bytes → ((k : ℕ) → k < length form → slice_index new.bytes k ≡ slice_index form k)
    → ((k : ℕ) → length form ≤ k → slice_index new.bytes k ≡ slice_index old.bytes k) → new ≡ with_bytes old old.start form
with_form old new form keeps fits first rest =
    let at : old.start - old.start ≡ 0 = omega arith in
    let len = keeps.len in
    let inside : IsInside old old.start (length form) = record { from_start = omega arith; to_end = omega (arith, fits) } in
    let long = length-with_bytes old old.start form inside in
    let each : (k : ℕ) → k < length new.bytes → slice_index new.bytes k ≡ slice_index (with_bytes old old.start form).bytes k = λ k low. elim (cases_lt k (length form)) [
      | inl early ↦ first k early ∙ sym (form_before old.bytes form (old.start - old.start) k at fits early)
      | inr late ↦ rest k late ∙ sym (form_after old.bytes form (old.start - old.start) k at fits late)
    ] in
    let same : new.bytes ≡ (with_bytes old old.start form).bytes = ext_get_or 0 new.bytes (with_bytes old old.start form).bytes (len ∙ sym long) each in
    ap₂ (λ (a : ℕ) (xs : List ℕ). let s : Range = record { start = a; bytes = xs } in s) keeps.start same
