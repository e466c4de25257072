-- The numbers of the listed sizes.
use Rattle.std.proofs.Common.{◌≡◌, ℕ, ◌+◌, ◌/◌, ◌<◌, ◌≤◌, Bool, true, false, ◌&&◌, ◌||◌, List, [], ◌∷◌, get_or, Some, inl, inr, ap, subst, ◌∙◌, refl, arith, w32}
use Rattle.std.specs.Prelude.{Contains, nat_eq, nat_le, nat_lt, slice_get}
use Rattle.std.specs.List.{list_all}
use Rattle.std.specs.Int.{trailing_zeros}
use lib.Count.{count_trailing_zeros}
use Rattle.std.proofs.lemmas.Bool.{and_parts, true≢false, eqb-true, ltb-true, leb-true, le-ltb, lt-leb}
use Rattle.std.proofs.lemmas.Option.{slice_get-get_or}
use Rattle.std.proofs.lemmas.List.Elements.{Contains-append_cases, Contains-push_cases}
use Rattle.gt_pages.specs.Ledger.{sizes}

contains_none : (y : ℕ) → Contains [] y → ⊥
contains_none y there = let no : 1 ≤ 0 = omega (arith, there.1) in omega (arith, no)

pub each_passes : (passes : ℕ → Bool) (xs : List ℕ) → list_all passes xs ≡ true → (x : ℕ) → Contains xs x → passes x ≡ true
each_passes passes [] all x there = absurd (contains_none x there)
each_passes passes (y ∷ xs) all x there =
    let parts = and_parts (passes y) (list_all passes xs) all in
    elim (Contains-append_cases (y ∷ []) xs x there) [
      | inl first ↦ elim (Contains-push_cases [] y x first) [
        | inl none ↦ absurd (contains_none x none)
        | inr is ↦ subst (λ n. passes n ≡ true) is parts.0
      ]
      | inr rest ↦ each_passes passes xs parts.1 x rest
    ]

-- size number k is this one
abbrev is_number : ℕ → ℕ → Bool
is_number k size = nat_lt k 29 && nat_eq (get_or sizes k 0) size

number_is : (k size : ℕ) → is_number k size ≡ true → (slice_get sizes k ≡ Some size) × (k < 29)
number_is k size is =
    let parts = and_parts (nat_lt k 29) (nat_eq (get_or sizes k 0) size) is in
    let low : k < 29 = ltb-true k 29 parts.0 in
    (slice_get-get_or sizes k 0 low ∙ ap (λ x. Some x) (eqb-true (get_or sizes k 0) size parts.1), low)

abbrev passes : ℕ → Bool
passes size =
    (nat_le 16 size || is_number 0 size)
    && ((nat_lt size 16 || nat_lt 256 size) || is_number (size / 16) size)
    && (nat_le size 256 || is_number (trailing_zeros w32 size + 8) size)

or_right : (x y : Bool) → (x || y) ≡ true → x ≡ false → y ≡ true
or_right false y h lost = h
or_right true y h lost = absurd (true≢false lost)

or_none : (x y : Bool) → x ≡ false → y ≡ false → (x || y) ≡ false
or_none false y lost none = none
or_none true y lost none = absurd (true≢false lost)

all_pass : list_all passes sizes ≡ true
unfolding count_trailing_zeros
all_pass = refl

pub number_small : (size : ℕ) → Contains sizes size → size < 16 → (slice_get sizes 0 ≡ Some size) × (0 < 29)
number_small size there low =
    let three = each_passes passes sizes all_pass size there in
    let two = (and_parts _ _ three).0 in
    number_is 0 size (or_right (nat_le 16 size) (is_number 0 size) (and_parts _ _ two).0 (lt-leb 16 size low))

pub number_middle : (size : ℕ) → Contains sizes size → 16 ≤ size → size ≤ 256 → (slice_get sizes (size / 16) ≡ Some size) × (size / 16 < 29)
number_middle size there low high =
    let three = each_passes passes sizes all_pass size there in
    let two = (and_parts _ _ three).0 in
    number_is (size / 16) size
    (or_right (nat_lt size 16 || nat_lt 256 size) (is_number (size / 16) size) (and_parts _ _ two).1
    (or_none (nat_lt size 16) (nat_lt 256 size) (le-ltb size 16 low) (le-ltb 256 size high)))

pub number_large : (size : ℕ) → Contains sizes size → 256 < size → (slice_get sizes (trailing_zeros w32 size + 8) ≡ Some size) × (trailing_zeros w32 size + 8 < 29)
number_large size there low =
    let three = each_passes passes sizes all_pass size there in
    number_is (trailing_zeros w32 size + 8) size
    (or_right (nat_le size 256) (is_number (trailing_zeros w32 size + 8) size) (and_parts _ _ three).1 (lt-leb size 256 low))

abbrev is_bounded : ℕ → Bool
is_bounded size = nat_lt 0 size && nat_le size 1048576

all_bounded : list_all is_bounded sizes ≡ true
all_bounded = refl

-- a listed size is not 0, and not larger than a mebibyte
pub size_bounds : (size : ℕ) → Contains sizes size → (0 < size) × (size ≤ 1048576)
size_bounds size there =
    let parts = and_parts (nat_lt 0 size) (nat_le size 1048576) (each_passes is_bounded sizes all_bounded size there) in
    (ltb-true 0 size parts.0, leb-true size 1048576 parts.1)
