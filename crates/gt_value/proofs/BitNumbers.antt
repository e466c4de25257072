-- Numbers by their bits.
use Rattle.std.proofs.Common.{◌≡◌, ℕ, zero, suc, ◌+◌, ◌-◌, ◌*◌, ◌/◌, ◌%◌, ◌^◌, ◌<◌, ◌≤◌, Bool, true, false, IsTrue, nat_lt, if◌then◌else◌, List, [], ◌∷◌, ◌++◌, drop, get_or, length, refl, ap, sym, subst, ◌∙◌, arith, length-take}
use Rattle.std.specs.Prelude.{◌==◌, ℤ, pos, negsuc}
use mir.Val.{bool_byte}
use Rattle.std.specs.Int.{byte_worth, sum_through}
use Rattle.std.proofs.Math.Nat.{pow-succ', mul-le-mul_right, div-eq_of_lt}
use Rattle.std.proofs.Math.Pow.{ones_split, ones_lt}
use Rattle.std.proofs.lemmas.Nat.{pow-add, shr_high, le-div, pow_pos}
use Rattle.std.proofs.lemmas.Nat.Bits.{bit_at-suc, bit_at_cat_low, bit_at_cat_high, bit_at_lowest}
use Rattle.std.proofs.lemmas.Bool.{lt-ltb, ltb-true, ltb-false, le-ltb}
use Rattle.std.proofs.lemmas.List.{get_or-drop, get_or-take, get_or_past}
use Rattle.gt_space.specs.Range.{Range, bytes_at}
use Rattle.gt_space.specs.Numbers.{u8_at, u16_at, u32_at, u64_at}
use Rattle.gt_space.proofs.NumberLemmas.{u16_at-bytes_at, u32_at-bytes_at, u64_at-bytes_at}
use Rattle.gt_tree.specs.Leaves.{bit_of}
use Rattle.gt_tree.specs.Numbers.{has_room, two's_complement}
use Rattle.gt_tree.proofs.FixedBits.{same_bits, numbers-fixed}
use Rattle.gt_value.specs.Reading.{bytes_from, bits_from, digit, bits_number, byte_numbers, number_from}

-- ---- bits as a number

pub bits_number-zero : (bits : ℕ → Bool) (at : ℕ) → bits_number bits at 0 ≡ 0
unfolding bits_number
bits_number-zero bits at = refl

pub bits_number-suc : (bits : ℕ → Bool) (at n : ℕ) → bits_number bits at (suc n) ≡ digit (bits at) + 2 * bits_number bits (at + 1) n
unfolding bits_number
bits_number-suc bits at n = refl

digit-low : (b : Bool) → digit b < 2
digit-low true = omega arith
digit-low false = omega arith

pub bits_number-below : (bits : ℕ → Bool) (at width : ℕ) → bits_number bits at width < 2 ^ width
bits_number-below bits at zero = let e = bits_number-zero bits at in omega (arith, e)
bits_number-below bits at (suc n) =
    let e = bits_number-suc bits at n in
    let rest = bits_number-below bits (at + 1) n in
    let low = digit-low (bits at) in
    let p = pow-succ' 2 n in
    omega (arith, e, rest, low, p)

digit-bit : (b : Bool) (m : ℕ) → bit_of (digit b + 2 * m) 0 ≡ b
digit-bit true m = ap (λ x. x == 1) (let e : (1 + 2 * m) % 2 ≡ 1 = omega arith in bit_at_lowest (1 + 2 * m) ∙ e)
digit-bit false m = ap (λ x. x == 1) (let e : (0 + 2 * m) % 2 ≡ 0 = omega arith in bit_at_lowest (0 + 2 * m) ∙ e)

digit-half : (b : Bool) (m : ℕ) → (digit b + 2 * m) / 2 ≡ m
digit-half b m = let low = digit-low b in omega (arith, low)

pub bits_number-bit : (bits : ℕ → Bool) (at width i : ℕ) → i < width → bit_of (bits_number bits at width) i ≡ bits (at + i)
bits_number-bit bits at zero i h = absurd (omega arith)
bits_number-bit bits at (suc n) zero h =
    let e : at ≡ at + 0 = omega arith in
    ap (λ x. bit_of x 0) (bits_number-suc bits at n) ∙ digit-bit (bits at) (bits_number bits (at + 1) n) ∙ ap bits e
bits_number-bit bits at (suc n) (suc i) h =
    let e : at + 1 + i ≡ at + suc i = omega arith in
    ap (λ x. bit_of x (suc i)) (bits_number-suc bits at n)
    ∙ ap (λ x. x == 1) (bit_at-suc (digit (bits at) + 2 * bits_number bits (at + 1) n) i)
    ∙ ap (λ x. bit_of x i) (digit-half (bits at) (bits_number bits (at + 1) n))
    ∙ bits_number-bit bits (at + 1) n i (omega arith)
    ∙ ap bits e

-- a number with these bits, and no more, is this number
pub bits_number-is : (bits : ℕ → Bool) (at width n : ℕ) → n < 2 ^ width → ((i : ℕ) → i < width → bits (at + i) ≡ bit_of n i) → n ≡ bits_number bits at width
bits_number-is bits at width n small h =
    same_bits width n (bits_number bits at width) small (bits_number-below bits at width) (λ i lt. sym (h i lt) ∙ sym (bits_number-bit bits at width i lt))

-- ---- signs

half : (width : ℕ) → 1 ≤ width → 2 ^ width ≡ 2 * 2 ^ (width - 1)
half zero h = absurd (omega arith)
half (suc k) h =
    let e : suc k - 1 ≡ k = omega arith in
    pow-succ' 2 k ∙ ap (λ n. 2 * 2 ^ n) (sym e)

pub number_from-positive : (width n : ℕ) → n < 2 ^ (width - 1) → number_from true width n ≡ pos n
number_from-positive width n h = ap (λ b. if b then pos n else negsuc (2 ^ width - (n + 1))) (lt-ltb n (2 ^ (width - 1)) h)

pub number_from-negative : (width n : ℕ) → 2 ^ (width - 1) ≤ n → number_from true width n ≡ negsuc (2 ^ width - (n + 1))
number_from-negative width n h = ap (λ b. if b then pos n else negsuc (2 ^ width - (n + 1))) (le-ltb n (2 ^ (width - 1)) h)

pub record Fit (signed : Bool) (width n : ℕ) (x : ℤ) : Type 0 where
  pub room : IsTrue (has_room signed width x)
  pub same : two's_complement width x ≡ n

fit-signed : (width n : ℕ) (b : Bool) → nat_lt n (2 ^ (width - 1)) ≡ b → 1 ≤ width → n < 2 ^ width → Fit true width n (if b then pos n else negsuc (2 ^ width - (n + 1)))
fit-signed width n true e some small = record { room = e; same = refl }
fit-signed width n false e some small =
    let p = half width some in
    let high = ltb-false n (2 ^ (width - 1)) e in
    record { room = lt-ltb (2 ^ width - (n + 1)) (2 ^ (width - 1)) (omega (arith, p, high)); same = omega (arith, small) }

pub fit : (signed : Bool) (width n : ℕ) → 1 ≤ width → n < 2 ^ width → Fit signed width n (number_from signed width n)
fit false width n some small = record { room = lt-ltb n (2 ^ width) small; same = refl }
fit true width n some small = fit-signed width n (nat_lt n (2 ^ (width - 1))) refl some small

-- a number that has room in these bits, and is held in them, is the number of these bits
pub number_from-is : (bits : ℕ → Bool) (signed : Bool) (at width : ℕ) (x : ℤ) → 1 ≤ width → IsTrue (has_room signed width x)
    → ((i : ℕ) → i < width → bits (at + i) ≡ bit_of (two's_complement width x) i) → number_from signed width (bits_number bits at width) ≡ x
number_from-is bits signed at width x some room h =
    let n = bits_number bits at width in
    let f = fit signed width n some (bits_number-below bits at width) in
    numbers-fixed signed width (number_from signed width n) x some f.room room
    (λ i lt. ap (λ m. bit_of m i) f.same ∙ bits_number-bit bits at width i lt ∙ h i lt)

-- ---- bytes as a number

pow_of_bytes : (k : ℕ) → 256 ^ k ≡ 2 ^ (8 * k)
pow_of_bytes zero = refl
pow_of_bytes (suc k) =
    let e : 8 * suc k ≡ 8 + 8 * k = omega arith in
    pow-succ' 256 k ∙ ap (λ x. 256 * x) (pow_of_bytes k) ∙ sym (pow-add 2 8 (8 * k)) ∙ ap (λ x. 2 ^ x) (sym e)

worth : (i b : ℕ) → byte_worth i b ≡ b * 2 ^ (8 * i)
worth zero b = omega arith
worth (suc i) b = ap (λ x. b * x) (pow_of_bytes (suc i))

module _ (b : ℕ → ℕ) (small : (i : ℕ) → b i < 256) where
  abbrev whole : ℕ → ℕ
  whole k = sum_through (λ i. byte_worth i (b i)) k

  whole-below : (k : ℕ) → whole k < 2 ^ (8 * suc k)
  whole-below zero = small 0
  whole-below (suc k) =
      let rest = whole-below k in
      let here = small (suc k) in
      let w = worth (suc k) (b (suc k)) in
      let e : 8 * suc (suc k) ≡ 8 + 8 * suc k = omega arith in
      let p = ap (λ x. 2 ^ x) e ∙ pow-add 2 8 (8 * suc k) in
      below-next (whole k) (b (suc k)) (2 ^ (8 * suc k)) (byte_worth (suc k) (b (suc k))) (2 ^ (8 * suc (suc k))) rest here w p
    where
      below-next : (s c p t q : ℕ) → s < p → c < 256 → t ≡ c * p → q ≡ 256 * p → s + t < q
      below-next s c p t q h k e f =
          let more : (c + 1) * p ≤ 256 * p = mul-le-mul_right p (omega arith) in
          omega (arith, more)

  whole-bit : (k i : ℕ) → i < 8 * suc k → bit_of (whole k) i ≡ bit_of (b (i / 8)) (i % 8)
  whole-bit zero i h =
      let q : 0 ≡ i / 8 = omega arith in
      let r : i ≡ i % 8 = omega arith in
      ap (λ x. bit_of (b x) i) q ∙ ap (λ x. bit_of (b (i / 8)) x) r
  whole-bit (suc k) i h = go (nat_lt i (8 * suc k)) refl (whole-bit k i)
    where
      parts : whole (suc k) ≡ b (suc k) * 2 ^ (8 * suc k) + whole k
      parts = let w = worth (suc k) (b (suc k)) in omega (arith, w)

      go : (t : Bool) → nat_lt i (8 * suc k) ≡ t → (i < 8 * suc k → bit_of (whole k) i ≡ bit_of (b (i / 8)) (i % 8)) → bit_of (whole (suc k)) i ≡ bit_of (b (i / 8)) (i % 8)
      go true e below =
          let lt = ltb-true i (8 * suc k) e in
          ap (λ x. bit_of x i) parts ∙ ap (λ x. x == 1) (bit_at_cat_low (b (suc k)) (8 * suc k) (whole k) i lt) ∙ below lt
      go false e below =
          let le = ltb-false i (8 * suc k) e in
          let q : suc k ≡ i / 8 = omega (arith, le, h) in
          let r : i - 8 * suc k ≡ i % 8 = omega (arith, le, h) in
          ap (λ x. bit_of x i) parts
          ∙ ap (λ x. x == 1) (bit_at_cat_high (b (suc k)) (8 * suc k) (whole k) i (whole-below k) le)
          ∙ ap (λ x. bit_of (b (suc k)) x) r
          ∙ ap (λ x. bit_of (b x) (i % 8)) q

  -- bytes hold their number
  pub whole-is : (bits : ℕ → Bool) (at k : ℕ) → ((i : ℕ) → i < 8 * suc k → bits (at + i) ≡ bit_of (b (i / 8)) (i % 8)) → whole k ≡ bits_number bits at (8 * suc k)
  whole-is bits at k h = bits_number-is bits at (8 * suc k) (whole k) (whole-below k) (λ i lt. h i lt ∙ sym (whole-bit k i lt))

-- ---- numbers in a space

module _ (r : Range) (from at addr : ℕ) (even : at % 8 ≡ 0) (is : addr ≡ r.start + from + at / 8) (small : (k : ℕ) → get_or r.bytes k 0 < 256) where
  byte-there : (i : ℕ) → get_or (bytes_from r from) ((at + i) / 8) 0 ≡ get_or r.bytes (addr - r.start + i / 8) 0
  byte-there i =
      let e : from + (at + i) / 8 ≡ addr - r.start + i / 8 = omega arith in
      get_or-drop from r.bytes ((at + i) / 8) 0 ∙ ap (λ j. get_or r.bytes j 0) e

  bit-there : (i : ℕ) → bits_from r from (at + i) ≡ bit_of (get_or r.bytes (addr - r.start + i / 8) 0) (i % 8)
  bit-there i =
      let e : (at + i) % 8 ≡ i % 8 = omega arith in
      ap (λ x. bit_of x ((at + i) % 8)) (byte-there i) ∙ ap (λ j. bit_of (get_or r.bytes (addr - r.start + i / 8) 0) j) e

  pub u8-number : u8_at r addr ≡ bits_number (bits_from r from) at 8
  u8-number =
      bits_number-is (bits_from r from) at 8 (u8_at r addr) (small (addr - r.start))
      (λ i lt. bit-there i ∙ ap (λ j. bit_of (get_or r.bytes j 0) (i % 8)) (omega arith) ∙ ap (λ j. bit_of (u8_at r addr) j) (omega arith))

  abbrev there : ℕ → List ℕ
  there n = bytes_at r addr n

  there-byte : (n i : ℕ) → i < n → get_or (there n) i 0 ≡ get_or r.bytes (addr - r.start + i) 0
  there-byte n i lt = get_or-take n (drop (addr - r.start) r.bytes) i 0 lt ∙ get_or-drop (addr - r.start) r.bytes i 0

  there-small : (n i : ℕ) → get_or (there n) i 0 < 256
  there-small n i = go (nat_lt i n) refl
    where
      go : (t : Bool) → nat_lt i n ≡ t → get_or (there n) i 0 < 256
      go true e = subst (λ x. x < 256) (sym (there-byte n i (ltb-true i n e))) (small (addr - r.start + i))
      go false e =
          let le = ltb-false i n e in
          let short : length (there n) ≤ i = let l = length-take n (drop (addr - r.start) r.bytes) in omega (arith, l, le) in
          let past : get_or (there n) i 0 ≡ 0 = get_or_past (there n) i 0 short in
          omega (arith, past)

  number-of : (k : ℕ) → sum_through (λ i. byte_worth i (get_or (there (suc k)) i 0)) k ≡ bits_number (bits_from r from) at (8 * suc k)
  number-of k =
      whole-is (λ i. get_or (there (suc k)) i 0) (there-small (suc k)) (bits_from r from) at k
      (λ i lt. bit-there i ∙ ap (λ x. bit_of x (i % 8)) (sym (there-byte (suc k) (i / 8) (omega arith))))

  pub u16-number : u16_at r addr ≡ bits_number (bits_from r from) at 16
  u16-number = u16_at-bytes_at r addr ∙ number-of 1

  pub u32-number : u32_at r addr ≡ bits_number (bits_from r from) at 32
  u32-number = u32_at-bytes_at r addr ∙ number-of 3

  pub u64-number : u64_at r addr ≡ bits_number (bits_from r from) at 64
  u64-number = u64_at-bytes_at r addr ∙ number-of 7

-- ---- the code

pub digit-byte : (b : Bool) → digit b ≡ bool_byte b
digit-byte true = refl
digit-byte false = refl

-- one more bit below
pub one_more-bit : (bits : ℕ → Bool) (at i width n : ℕ) (b : Bool) → 0 < i → i ≤ width → n ≡ bits_number bits (at + i) (width - i) → b ≡ bits (at + (i - 1)) → 2 * n + bool_byte b ≡ bits_number bits (at + (i - 1)) (width - (i - 1))
one_more-bit bits at i width n b some le e f =
    let left : suc (width - i) ≡ width - (i - 1) = omega arith in
    let next : at + i ≡ at + (i - 1) + 1 = omega arith in
    let rest = e ∙ ap (λ a. bits_number bits a (width - i)) next in
    let step = bits_number-suc bits (at + (i - 1)) (width - i) in
    let one = digit-byte b in
    let here : digit b ≡ digit (bits (at + (i - 1))) = ap digit f in
    let whole : 2 * n + bool_byte b ≡ bits_number bits (at + (i - 1)) (suc (width - i)) = omega (arith, rest, step, one, here) in
    whole ∙ ap (bits_number bits (at + (i - 1))) left

-- the numbers of all set bits
pub ones_below : (width : ℕ) → 1 ≤ width → width ≤ 64 → (2 ^ 64 - 1) / 2 ^ (64 - width) ≡ 2 ^ width - 1
ones_below width some few =
    let e : 64 ≡ width + (64 - width) = omega arith in
    ap (λ n. (2 ^ n - 1) / 2 ^ (64 - width)) e ∙ ap (λ n. n / 2 ^ (64 - width)) (ones_split width (64 - width)) ∙ shr_high (2 ^ width - 1) (64 - width) (2 ^ (64 - width) - 1) (ones_lt (64 - width))

-- a number of which something is left after a shift
pub some-shift : (n k : ℕ) → (n / 2 ^ k ≡ 0 → ⊥) → 2 ^ k ≤ n
some-shift n k h = go (nat_lt n (2 ^ k)) refl
  where
    go : (t : Bool) → nat_lt n (2 ^ k) ≡ t → 2 ^ k ≤ n
    go true e = absurd (h (div-eq_of_lt (ltb-true n (2 ^ k) e)))
    go false e = ltb-false n (2 ^ k) e

pub none-shift : (n k : ℕ) → n / 2 ^ k ≡ 0 → n < 2 ^ k
none-shift n k h = go (nat_lt n (2 ^ k)) refl
  where
    go : (t : Bool) → nat_lt n (2 ^ k) ≡ t → n < 2 ^ k
    go true e = ltb-true n (2 ^ k) e
    go false e = let one = le-div 1 n (2 ^ k) (pow_pos k) (let l = ltb-false n (2 ^ k) e in omega arith) in absurd (omega arith)

-- one more byte
pub byte_numbers-more : (bits : ℕ → Bool) (at n : ℕ) → byte_numbers bits at (suc n) ≡ byte_numbers bits at n ++ bits_number bits (at + 8 * n) 8 ∷ []
byte_numbers-more bits at zero = let e : at ≡ at + 8 * 0 = omega arith in ap (λ x. bits_number bits x 8 ∷ []) e
byte_numbers-more bits at (suc n) =
    let e : at + 8 + 8 * n ≡ at + 8 * suc n = omega arith in
    ap (λ xs. bits_number bits at 8 ∷ xs) (byte_numbers-more bits (at + 8) n ∙ ap (λ x. byte_numbers bits (at + 8) n ++ bits_number bits x 8 ∷ []) e)

pub byte_numbers-next : (bits : ℕ → Bool) (at i byte : ℕ) (xs ys : List ℕ) → xs ≡ byte_numbers bits at i → byte ≡ bits_number bits (at + 8 * i) 8 → ys ≡ xs ++ byte ∷ [] → ys ≡ byte_numbers bits at (i + 1)
byte_numbers-next bits at i byte xs ys e f g =
    let next : suc i ≡ i + 1 = omega arith in
    g ∙ ap (λ zs. zs ++ byte ∷ []) e ∙ ap (λ b. byte_numbers bits at i ++ b ∷ []) f ∙ sym (byte_numbers-more bits at i) ∙ ap (byte_numbers bits at) next
