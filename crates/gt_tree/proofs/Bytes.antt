-- Bytes by their bits.
use Rattle.std.proofs.Common.{◌≡◌, ℕ, zero, suc, ◌+◌, ◌*◌, ◌/◌, ◌%◌, ◌^◌, ◌<◌, Bool, true, false, cond, List, [], ◌∷◌, length, refl, ap, sym, ◌∙◌, arith}
use Rattle.std.specs.Prelude.{◌==◌, All, slice_index}
use Rattle.std.specs.List.{list_any}
use Rattle.std.proofs.lemmas.List.Elements.{All-nil, All-cons, All-get_or}
use Rattle.std.proofs.lemmas.Nat.Bits.{bit_at_lowest, bit_at-suc, bit_at-lt, same_from_bits_below}
use Rattle.std.specs.Int.{bit_at}
use Rattle.gt_tree.specs.Leaves.{Leaf, bit_of, is_set_in, Stand}
use Rattle.gt_tree.specs.LeafLaws.{HasOneForm}

abbrev one : Bool → ℕ
one b = cond b 1 0

-- the number of so many bits that has these
number_of : ℕ → (ℕ → Bool) → ℕ
number_of zero f = 0
number_of (suc k) f = one (f 0) + 2 * number_of k (λ i. f (suc i))

one-below : (b : Bool) → one b < 2
one-below true = omega arith
one-below false = omega arith

number_of-below : (k : ℕ) (f : ℕ → Bool) → number_of k f < 2 ^ k
unfolding number_of
number_of-below zero f = omega arith
number_of-below (suc k) f =
    let b : one (f 0) < 2 = one-below (f 0) in
    let rest : number_of k (λ i. f (suc i)) < 2 ^ k = number_of-below k (λ i. f (suc i)) in
    let p : 2 ^ suc k ≡ 2 * 2 ^ k = omega arith in
    omega (arith, b, rest, p)

lowest : (b x : ℕ) → b < 2 → (b + 2 * x) % 2 ≡ b
lowest b x h = omega arith

higher : (b x : ℕ) → b < 2 → (b + 2 * x) / 2 ≡ x
higher b x h = omega arith

bit_at-number_of : (k : ℕ) (f : ℕ → Bool) (i : ℕ) → i < k → bit_at (number_of k f) i ≡ one (f i)
unfolding number_of
bit_at-number_of zero f i h = absurd (omega arith)
bit_at-number_of (suc k) f zero h = bit_at_lowest (one (f 0) + 2 * number_of k (λ i. f (suc i))) ∙ lowest (one (f 0)) (number_of k (λ i. f (suc i))) (one-below (f 0))
bit_at-number_of (suc k) f (suc i) h =
    bit_at-suc (one (f 0) + 2 * number_of k (λ i. f (suc i))) i
    ∙ ap (λ n. bit_at n i) (higher (one (f 0)) (number_of k (λ i. f (suc i))) (one-below (f 0)))
    ∙ bit_at-number_of k (λ i. f (suc i)) i (omega arith)

is_one : (b : Bool) → (one b == 1) ≡ b
is_one true = refl
is_one false = refl

bit_of-number_of : (k : ℕ) (f : ℕ → Bool) (i : ℕ) → i < k → bit_of (number_of k f) i ≡ f i
bit_of-number_of k f i h = ap (λ n. n == 1) (bit_at-number_of k f i h) ∙ is_one (f i)

-- so many bytes from the place p on
bytes_from : (ℕ → Bool) → ℕ → ℕ → List ℕ
bytes_from f p zero = []
bytes_from f p (suc n) = number_of 8 (λ j. f (8 * p + j)) ∷ bytes_from f (suc p) n

length-bytes_from : (f : ℕ → Bool) (p n : ℕ) → length (bytes_from f p n) ≡ n
unfolding bytes_from
length-bytes_from f p zero = refl
length-bytes_from f p (suc n) = ap suc (length-bytes_from f (suc p) n)

small-bytes_from : (f : ℕ → Bool) (p n : ℕ) → All (λ byte. byte < 256) (bytes_from f p n)
unfolding bytes_from
small-bytes_from f p zero = All-nil (λ byte. byte < 256)
small-bytes_from f p (suc n) = All-cons (λ byte. byte < 256) (number_of 8 (λ j. f (8 * p + j))) (bytes_from f (suc p) n) (number_of-below 8 (λ j. f (8 * p + j))) (small-bytes_from f (suc p) n)

get-bytes_from : (f : ℕ → Bool) (p n q : ℕ) → q < n → slice_index (bytes_from f p n) q ≡ number_of 8 (λ j. f (8 * (p + q) + j))
unfolding bytes_from
get-bytes_from f p zero q h = absurd (omega arith)
get-bytes_from f p (suc n) zero h =
    let e : p ≡ p + 0 = omega arith in
    ap (λ m. number_of 8 (λ j. f (8 * m + j))) e
get-bytes_from f p (suc n) (suc q) h =
    let e : suc p + q ≡ p + suc q = omega arith in
    get-bytes_from f (suc p) n q (omega arith) ∙ ap (λ m. number_of 8 (λ j. f (8 * m + j))) e

stand-bytes_from : (f : ℕ → Bool) (n i : ℕ) → i < 8 * n → bit_of (slice_index (bytes_from f 0 n) (i / 8)) (i % 8) ≡ f i
stand-bytes_from f n i h =
    let within : i / 8 < n = omega arith in
    let low : i % 8 < 8 = omega arith in
    let e : 8 * (0 + i / 8) + i % 8 ≡ i = omega arith in
    ap (λ b. bit_of b (i % 8)) (get-bytes_from f 0 n (i / 8) within) ∙ bit_of-number_of 8 (λ j. f (8 * (0 + i / 8) + j)) (i % 8) low ∙ ap f e

-- ---- at most one list of bytes

same_bit : (a b : ℕ) → a < 2 → b < 2 → (a == 1) ≡ (b == 1) → a ≡ b
same_bit zero zero h k e = refl
same_bit zero (suc zero) h k e = cc
same_bit zero (suc (suc b)) h k e = absurd (omega arith)
same_bit (suc zero) zero h k e = cc
same_bit (suc zero) (suc zero) h k e = refl
same_bit (suc zero) (suc (suc b)) h k e = absurd (omega arith)
same_bit (suc (suc a)) b h k e = absurd (omega arith)

same_byte : (a b : ℕ) → a < 256 → b < 256 → ((j : ℕ) → j < 8 → bit_of a j ≡ bit_of b j) → a ≡ b
same_byte a b small other bits = same_from_bits_below 8 a b small other (λ j low. same_bit (bit_at a j) (bit_at b j) (bit_at-lt a j) (bit_at-lt b j) (bits j low))

same_list : (xs ys : List ℕ) → length xs ≡ length ys → ((k : ℕ) → k < length xs → slice_index xs k ≡ slice_index ys k) → xs ≡ ys
same_list [] [] e h = refl
same_list [] (y ∷ ys) e h = absurd (omega arith)
same_list (x ∷ xs) [] e h = absurd (omega arith)
same_list (x ∷ xs) (y ∷ ys) e h =
    let head : x ≡ y = h 0 (omega arith) in
    let rest : xs ≡ ys = same_list xs ys (omega arith) (λ k within. h (suc k) (omega arith)) in
    cc

stands-at : (address : ℕ → ℕ) (leaves : List Leaf) (bytes : List ℕ) (q j : ℕ) → Stand address leaves bytes → q < length bytes → j < 8 → bit_of (slice_index bytes q) j ≡ list_any (is_set_in address (8 * q + j)) leaves
stands-at address leaves bytes q j stand within low =
    let byte : (8 * q + j) / 8 ≡ q = omega arith in
    let bit : (8 * q + j) % 8 ≡ j = omega arith in
    sym (ap (λ k. bit_of (slice_index bytes k) j) byte) ∙ sym (ap (λ k. bit_of (slice_index bytes ((8 * q + j) / 8)) k) bit) ∙ stand (8 * q + j) (omega arith)

pub one-form : HasOneForm
one-form address leaves n =
    let f = λ (i : ℕ). list_any (is_set_in address i) leaves in
    let long = length-bytes_from f 0 n in (
      bytes_from f 0 n,
      record { long = long; small = small-bytes_from f 0 n; stand = λ i h. stand-bytes_from f n i (omega (arith, long)) },
      λ other o.
          same_list other (bytes_from f 0 n) (o.long ∙ sym long) (λ k within.
          same_byte (slice_index other k) (slice_index (bytes_from f 0 n) k) (All-get_or (λ byte. byte < 256) other k 0 within o.small)
          (All-get_or (λ byte. byte < 256) (bytes_from f 0 n) k 0 (omega (arith, long, o.long)) (small-bytes_from f 0 n))
          (λ j low. stands-at address leaves other k j o.stand within low
          ∙ sym (stands-at address leaves (bytes_from f 0 n) k j (λ i h. stand-bytes_from f n i (omega (arith, long))) (omega (arith, long, o.long)) low))),
    )
