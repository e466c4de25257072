-- Bits of numbers in the bytes of a space.
use Rattle.std.proofs.Common.{◌≡◌, ◌⊎◌, ℕ, zero, suc, ◌+◌, ◌-◌, ◌*◌, ◌/◌, ◌%◌, ◌^◌, ◌<◌, ◌≤◌, Bool, true, false, cond, List, [], ◌∷◌, length, get_or, refl, ap, sym, subst, ◌∙◌, arith, inl, inr, zero-add, pow-add, div-add-mod'}
use Rattle.std.specs.Prelude.{◌==◌, ◌≢◌}
use Rattle.std.specs.Int.{bit_at, byte_at, bytes_low_first}
use Rattle.std.proofs.lemmas.Nat.{pow_pos, mod_below}
use Rattle.std.proofs.Math.Nat.{pow-succ'}
use Rattle.std.proofs.lemmas.Nat.Bits.{bit_at_cat_low, bit_at_cat_high}
use Rattle.std.proofs.lemmas.List.{places}
use Rattle.gt_space.specs.Range.{Range, KeepsAddresses, with_bytes}
use Rattle.gt_tree.specs.Leaves.{bit_of}
use Rattle.gt_tree.specs.FixedLaws.{bit_in}
use Rattle.gt_store.specs.Writing.{AreSmall, Writes}

-- ---- bits of numbers

pub bit-low : (n k i : ℕ) → i < k → bit_of (n % 2 ^ k) i ≡ bit_of n i
bit-low n k i h =
    let e : n / 2 ^ k * 2 ^ k + n % 2 ^ k ≡ n = div-add-mod' n (2 ^ k) in
    ap (λ b. b == 1) (sym (bit_at_cat_low (n / 2 ^ k) k (n % 2 ^ k) i h) ∙ ap (λ m. bit_at m i) e)

pub bit-high : (n k i : ℕ) → bit_of (n / 2 ^ k) i ≡ bit_of n (k + i)
bit-high n k i =
    let e : n / 2 ^ k * 2 ^ k + n % 2 ^ k ≡ n = div-add-mod' n (2 ^ k) in
    let less : n % 2 ^ k < 2 ^ k = mod_below n (2 ^ k) (pow_pos k) in
    let back : (k + i) - k ≡ i = omega arith in
    ap (λ b. b == 1) (ap (bit_at (n / 2 ^ k)) (sym back) ∙ sym (bit_at_cat_high (n / 2 ^ k) k (n % 2 ^ k) (k + i) less (omega arith)) ∙ ap (λ m. bit_at m (k + i)) e)

-- ---- bytes of numbers

pow-bytes : (m : ℕ) → 256 ^ m ≡ 2 ^ (8 * m)
pow-bytes zero = refl
pow-bytes (suc m) =
    let e : 8 + 8 * m ≡ 8 * suc m = omega arith in
    pow-succ' 256 m ∙ ap (λ x. 256 * x) (pow-bytes m) ∙ sym (pow-add 2 8 (8 * m)) ∙ ap (λ x. 2 ^ x) e

bit-byte : (m n i : ℕ) → i < 8 → bit_of (n / 2 ^ (8 * m) % 256) i ≡ bit_of n (8 * m + i)
bit-byte m n i h = bit-low (n / 2 ^ (8 * m)) 8 i h ∙ bit-high n (8 * m) i

bit-byte_at : (j n i : ℕ) → i < 8 → bit_of (byte_at j n) i ≡ bit_of n (8 * j + i)
bit-byte_at zero n i h = let e : i ≡ 8 * 0 + i = omega arith in bit-low n 8 i h ∙ ap (bit_of n) e
bit-byte_at (suc j) n i h = ap (λ p. bit_of (n / p % 256) i) (pow-bytes (suc j)) ∙ bit-byte (suc j) n i h

byte_at-small : (j n : ℕ) → byte_at j n < 256
byte_at-small zero n = mod_below n 256 (omega arith)
byte_at-small (suc j) n = mod_below (n / 256 ^ suc j) 256 (omega arith)

get-low_first : (i k n j : ℕ) → j < k → get_or (bytes_low_first i k n) j 0 ≡ byte_at (i + j) n
get-low_first i zero n j h = absurd (omega arith)
get-low_first i (suc k) n zero h = let e : i ≡ i + 0 = omega arith in ap (λ m. byte_at m n) e
get-low_first i (suc k) n (suc j) h = let e : suc i + j ≡ i + suc j = omega arith in get-low_first (suc i) k n j (omega arith) ∙ ap (λ m. byte_at m n) e

length-low_first : (i k n : ℕ) → length (bytes_low_first i k n) ≡ k
length-low_first i zero n = refl
length-low_first i (suc k) n = ap suc (length-low_first (suc i) k n)

small-low_first : (i k n j : ℕ) → get_or (bytes_low_first i k n) j 0 < 256
small-low_first i zero n j = omega arith
small-low_first i (suc k) n zero = byte_at-small i n
small-low_first i (suc k) n (suc j) = small-low_first (suc i) k n j

-- ---- a write

pub get-inside : (o : ℕ) (r : Range) (bs : List ℕ) (k : ℕ) → o + length bs ≤ length r.bytes → o ≤ k → k < o + length bs
    → get_or (with_bytes r (r.start + o) bs).bytes k 0 ≡ get_or bs (k - o) 0
get-inside o r bs k fits low high = let e : (r.start + o) - r.start ≡ o = omega arith in grind (arith, places)

pub get-outside : (o : ℕ) (r : Range) (bs : List ℕ) (k : ℕ) → o + length bs ≤ length r.bytes → (k < o) ⊎ (o + length bs ≤ k)
    → get_or (with_bytes r (r.start + o) bs).bytes k 0 ≡ get_or r.bytes k 0
get-outside o r bs k fits (inl low) = let e : (r.start + o) - r.start ≡ o = omega arith in grind (arith, places)
get-outside o r bs k fits (inr high) = let e : (r.start + o) - r.start ≡ o = omega arith in grind (arith, places)

pub below-or : (a b : ℕ) → (a < b) ⊎ (b ≤ a)
below-or zero zero = inr (omega arith)
below-or zero (suc b) = inl (omega arith)
below-or (suc a) zero = inr (omega arith)
below-or (suc a) (suc b) = elim (below-or a b) [ inl lt ↦ inl (omega (arith, lt)) | inr le ↦ inr (omega (arith, le)) ]

pub small-with : (o : ℕ) (r : Range) (bs : List ℕ) → o + length bs ≤ length r.bytes → ((k : ℕ) → get_or bs k 0 < 256) → AreSmall r → AreSmall (with_bytes r (r.start + o) bs)
small-with o r bs fits small old k = go (below-or k o) (below-or k (o + length bs))
  where
    go : (k < o) ⊎ (o ≤ k) → (k < o + length bs) ⊎ (o + length bs ≤ k) → get_or (with_bytes r (r.start + o) bs).bytes k 0 < 256
    go (inl lt) high = subst (λ n. n < 256) (sym (get-outside o r bs k fits (inl lt))) (old k)
    go (inr le) (inl lt) = subst (λ n. n < 256) (sym (get-inside o r bs k fits le lt)) (small (k - o))
    go (inr le) (inr far) = subst (λ n. n < 256) (sym (get-outside o r bs k fits (inr far))) (old k)

-- whole bytes at a place
module _ (r : Range) (at bits : ℕ) (bs : List ℕ) (whole : at % 8 ≡ 0) (fits : at + 8 * length bs ≤ 8 * length r.bytes) (small : (k : ℕ) → get_or bs k 0 < 256)
    (are : (k i : ℕ) → k < length bs → i < 8 → bit_of (get_or bs k 0) i ≡ bit_of bits (8 * k + i)) where
  bytes-inside : (j : ℕ) → at ≤ j → j < at + 8 * length bs → bit_in (with_bytes r (r.start + at / 8) bs).bytes j ≡ bit_of bits (j - at)
  bytes-inside j low high =
      let lo : at / 8 ≤ j / 8 = omega arith in
      let hi : j / 8 < at / 8 + length bs = omega (arith, whole) in
      let k : j / 8 - at / 8 < length bs = omega (arith, hi, lo) in
      let i : j % 8 < 8 = omega arith in
      let e : 8 * (j / 8 - at / 8) + j % 8 ≡ j - at = omega (arith, whole, lo) in
      ap (λ b. bit_of b (j % 8)) (get-inside (at / 8) r bs (j / 8) (omega (arith, whole, fits)) lo hi) ∙ are (j / 8 - at / 8) (j % 8) k i ∙ ap (bit_of bits) e

  bytes-outside : (j : ℕ) → (j < at) ⊎ (at + 8 * length bs ≤ j) → bit_in (with_bytes r (r.start + at / 8) bs).bytes j ≡ bit_in r.bytes j
  bytes-outside j (inl lt) =
      let out : j / 8 < at / 8 = omega (arith, whole, lt) in
      ap (λ b. bit_of b (j % 8)) (get-outside (at / 8) r bs (j / 8) (omega (arith, whole, fits)) (inl out))
  bytes-outside j (inr le) =
      let out : at / 8 + length bs ≤ j / 8 = omega (arith, whole, le) in
      ap (λ b. bit_of b (j % 8)) (get-outside (at / 8) r bs (j / 8) (omega (arith, whole, fits)) (inr out))

  bytes-small : AreSmall r → AreSmall (with_bytes r (r.start + at / 8) bs)
  bytes-small old = small-with (at / 8) r bs (omega (arith, whole, fits)) small old

  bytes-apart : (k : ℕ) → (8 * k + 8 ≤ at) ⊎ (at + 8 * length bs ≤ 8 * k) → get_or (with_bytes r (r.start + at / 8) bs).bytes k 0 ≡ get_or r.bytes k 0
  bytes-apart k (inl lt) = let out : k < at / 8 = omega (arith, whole, lt) in get-outside (at / 8) r bs k (omega (arith, whole, fits)) (inl out)
  bytes-apart k (inr le) = let out : at / 8 + length bs ≤ k = omega (arith, whole, le) in get-outside (at / 8) r bs k (omega (arith, whole, fits)) (inr out)

  pub writes-bytes : (new : Range) → new ≡ with_bytes r (r.start + at / 8) bs → KeepsAddresses r new → Writes at (8 * length bs) bits r new
  writes-bytes new is keeps = record {
    addresses = keeps;
    small = λ old. subst AreSmall (sym is) (bytes-small old);
    inside = λ j low high. ap (λ s. bit_in s.bytes j) is ∙ bytes-inside j low high;
    outside = λ j out. ap (λ s. bit_in s.bytes j) is ∙ bytes-outside j out;
    apart = λ k out. ap (λ s. get_or s.bytes k 0) is ∙ bytes-apart k out;
  }

-- a number of so many bytes
pub writes-number : (r : Range) (at n bits : ℕ) → at % 8 ≡ 0 → at + 8 * n ≤ 8 * length r.bytes → (new : Range) → new ≡ with_bytes r (r.start + at / 8) (bytes_low_first 0 n bits) → KeepsAddresses r new → Writes at (8 * n) bits r new
writes-number r at n bits whole fits new is keeps =
    let long = length-low_first 0 n bits in
    subst (λ m. Writes at (8 * m) bits r new) long
    (writes-bytes r at bits (bytes_low_first 0 n bits) whole (omega (arith, long, fits)) (small-low_first 0 n bits)
    (λ k i lt low. ap (λ b. bit_of b i) (get-low_first 0 n bits k (omega (arith, long, lt))) ∙ bit-byte_at (0 + k) bits i low ∙ ap (λ m. bit_of bits (8 * m + i)) (zero-add k)) new is keeps)

pub writes-byte : (r : Range) (at bits : ℕ) → at % 8 ≡ 0 → at + 8 ≤ 8 * length r.bytes → bits < 256 → (new : Range) → new ≡ with_bytes r (r.start + at / 8) (bits ∷ []) → KeepsAddresses r new → Writes at 8 bits r new
writes-byte r at bits whole fits small new is keeps =
    writes-bytes r at bits (bits ∷ []) whole (omega (arith, fits)) below are new is keeps
  where
    below : (k : ℕ) → get_or (bits ∷ []) k 0 < 256
    below zero = small
    below (suc k) = omega arith

    are : (k i : ℕ) → k < length (bits ∷ []) → i < 8 → bit_of (get_or (bits ∷ []) k 0) i ≡ bit_of bits (8 * k + i)
    are zero i lt low = let e : i ≡ 8 * 0 + i = omega arith in ap (bit_of bits) e
    are (suc k) i lt low = absurd (omega (arith, lt))

-- ---- one bit

one-bit : (set : Bool) → bit_of (cond set 1 0) 0 ≡ set
one-bit true = refl
one-bit false = refl

module _ (r : Range) (at v : ℕ) (set : Bool) (fits : at < 8 * length r.bytes) (small : v < 256) (other : (i : ℕ) → i < 8 → i ≢ at % 8 → bit_of v i ≡ bit_of (get_or r.bytes (at / 8) 0) i)
    (same : bit_of v (at % 8) ≡ set) where
  here : get_or (with_bytes r (r.start + at / 8) (v ∷ [])).bytes (at / 8) 0 ≡ v
  here =
      let e : at / 8 - at / 8 ≡ 0 = omega arith in
      get-inside (at / 8) r (v ∷ []) (at / 8) (omega (arith, fits)) (omega arith) (omega arith) ∙ ap (λ k. get_or (v ∷ []) k 0) e

  one-inside : (j : ℕ) → at ≤ j → j < at + 1 → bit_in (with_bytes r (r.start + at / 8) (v ∷ [])).bytes j ≡ bit_of (cond set 1 0) (j - at)
  one-inside j low high =
      let e : j ≡ at = omega arith in
      let z : 0 ≡ j - at = omega arith in
      ap (λ k. bit_in (with_bytes r (r.start + at / 8) (v ∷ [])).bytes k) e ∙ ap (λ b. bit_of b (at % 8)) here ∙ same ∙ sym (one-bit set) ∙ ap (bit_of (cond set 1 0)) z

  one-same : (j : ℕ) → j / 8 ≡ at / 8 → j % 8 ≢ at % 8 → bit_in (with_bytes r (r.start + at / 8) (v ∷ [])).bytes j ≡ bit_in r.bytes j
  one-same j e ne =
      ap (λ k. bit_of (get_or (with_bytes r (r.start + at / 8) (v ∷ [])).bytes k 0) (j % 8)) e
      ∙ ap (λ b. bit_of b (j % 8)) here
      ∙ other (j % 8) (omega arith) ne
      ∙ ap (λ k. bit_of (get_or r.bytes k 0) (j % 8)) (sym e)

  one-apart : (j : ℕ) → (j / 8 < at / 8) ⊎ (at / 8 + 1 ≤ j / 8) → bit_in (with_bytes r (r.start + at / 8) (v ∷ [])).bytes j ≡ bit_in r.bytes j
  one-apart j out = ap (λ b. bit_of b (j % 8)) (get-outside (at / 8) r (v ∷ []) (j / 8) (omega (arith, fits)) out)

  one-outside : (j : ℕ) → (j < at) ⊎ (at + 1 ≤ j) → bit_in (with_bytes r (r.start + at / 8) (v ∷ [])).bytes j ≡ bit_in r.bytes j
  one-outside j out = go (below-or (j / 8) (at / 8)) (below-or (at / 8) (j / 8))
    where
      apart : (j < at) ⊎ (at + 1 ≤ j) → j / 8 ≡ at / 8 → j % 8 ≡ at % 8 → ⊥
      apart (inl lt) e f = omega (arith, lt, e, f)
      apart (inr le) e f = omega (arith, le, e, f)

      go : (j / 8 < at / 8) ⊎ (at / 8 ≤ j / 8) → (at / 8 < j / 8) ⊎ (j / 8 ≤ at / 8) → bit_in (with_bytes r (r.start + at / 8) (v ∷ [])).bytes j ≡ bit_in r.bytes j
      go (inl lt) y = one-apart j (inl lt)
      go (inr le) (inl lt) = let up : at / 8 + 1 ≤ j / 8 = omega (arith, lt) in one-apart j (inr up)
      go (inr le) (inr ge) = let e : j / 8 ≡ at / 8 = omega (arith, le, ge) in one-same j e (apart out e)

  one-far : (k : ℕ) → (8 * k + 8 ≤ at) ⊎ (at + 1 ≤ 8 * k) → get_or (with_bytes r (r.start + at / 8) (v ∷ [])).bytes k 0 ≡ get_or r.bytes k 0
  one-far k (inl lt) = let out : k < at / 8 = omega (arith, lt) in get-outside (at / 8) r (v ∷ []) k (omega (arith, fits)) (inl out)
  one-far k (inr le) = let out : at / 8 + 1 ≤ k = omega (arith, le) in get-outside (at / 8) r (v ∷ []) k (omega (arith, fits)) (inr out)

  pub writes-bit : (new : Range) → new ≡ with_bytes r (r.start + at / 8) (v ∷ []) → KeepsAddresses r new → Writes at 1 (cond set 1 0) r new
  writes-bit new is keeps = record {
    addresses = keeps;
    small = λ old. subst AreSmall (sym is) (small-with (at / 8) r (v ∷ []) (omega (arith, fits)) below old);
    inside = λ j low high. ap (λ s. bit_in s.bytes j) is ∙ one-inside j low high;
    outside = λ j out. ap (λ s. bit_in s.bytes j) is ∙ one-outside j out;
    apart = λ k out. ap (λ s. get_or s.bytes k 0) is ∙ one-far k out;
  }
    where
      below : (k : ℕ) → get_or (v ∷ []) k 0 < 256
      below zero = small
      below (suc k) = omega arith

-- ---- one bit after another

pub writes-none : (r : Range) (at bits : ℕ) → Writes at 0 bits r r
writes-none r at bits = record {
  addresses = record { start = refl; len = refl };
  small = λ old. old;
  inside = λ j low high. absurd (omega (arith, low, high));
  outside = λ j out. refl;
  apart = λ k out. refl;
}

pub keeps-keeps : {a b c : Range} → KeepsAddresses a b → KeepsAddresses b c → KeepsAddresses a c
keeps-keeps x y = record { start = y.start ∙ x.start; len = y.len ∙ x.len }

pub writes-more : (a b c : Range) (at i bits : ℕ) (set : Bool) → bit_of bits i ≡ set → Writes at i bits a b → Writes (at + i) 1 (cond set 1 0) b c → Writes at (i + 1) bits a c
writes-more a b c at i bits set is x y = record {
  addresses = keeps-keeps x.addresses y.addresses;
  small = λ old. y.small (x.small old);
  inside = inside;
  outside = outside;
  apart = apart;
}
  where
    apart : (k : ℕ) → (8 * k + 8 ≤ at) ⊎ (at + (i + 1) ≤ 8 * k) → get_or c.bytes k 0 ≡ get_or a.bytes k 0
    apart k (inl lt) = y.apart k (inl (omega (arith, lt))) ∙ x.apart k (inl lt)
    apart k (inr le) = y.apart k (inr (omega (arith, le))) ∙ x.apart k (inr (omega (arith, le)))

    inside : (j : ℕ) → at ≤ j → j < at + (i + 1) → bit_in c.bytes j ≡ bit_of bits (j - at)
    inside j low high = go (below-or j (at + i))
      where
        go : (j < at + i) ⊎ (at + i ≤ j) → bit_in c.bytes j ≡ bit_of bits (j - at)
        go (inl lt) = y.outside j (inl lt) ∙ x.inside j low lt
        go (inr le) =
            let z : j - (at + i) ≡ 0 = omega (arith, le, high) in
            let w : i ≡ j - at = omega (arith, le, high) in
            y.inside j le (omega (arith, high)) ∙ ap (bit_of (cond set 1 0)) z ∙ one-bit set ∙ sym is ∙ ap (bit_of bits) w

    outside : (j : ℕ) → (j < at) ⊎ (at + (i + 1) ≤ j) → bit_in c.bytes j ≡ bit_in a.bytes j
    outside j (inl lt) = y.outside j (inl (omega (arith, lt))) ∙ x.outside j (inl lt)
    outside j (inr le) = y.outside j (inr (omega (arith, le))) ∙ x.outside j (inr (omega (arith, le)))
