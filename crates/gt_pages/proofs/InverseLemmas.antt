-- A division by a listed size, as a product.
use Rattle.std.proofs.Common.{◌≡◌, ℕ, ◌+◌, ◌-◌, ◌*◌, ◌/◌, ◌^◌, ◌<◌, ◌≤◌, Bool, true, ◌&&◌, refl, arith}
use Rattle.std.specs.Prelude.{Contains, nat_le, nat_lt}
use Rattle.std.specs.List.{list_all}
use Rattle.std.proofs.lemmas.Bool.{and_parts, leb-true, ltb-true}
use Rattle.std.proofs.Math.Nat.{div-eq_of_lt-le, lt-div-mul-add, lt_of_mul-lt-mul_left, mul-div-le, mul-le-mul_left, mul-le-mul_right}
use Rattle.gt_pages.specs.Ledger.{sizes}
use Rattle.gt_pages.specs.Inverses.{IsInverse}
use Rattle.gt_pages.proofs.SizeLemmas.{each_passes}

abbrev inverse_of : ℕ → ℕ
inverse_of bytes = (2 ^ 34 + bytes - 1) / bytes

abbrev has_inverse : ℕ → Bool
has_inverse bytes =
    nat_lt (inverse_of bytes) (2 ^ 32) && (nat_le (2 ^ 34) (bytes * inverse_of bytes) && nat_le (bytes * inverse_of bytes) (2 ^ 34 + 2 ^ 8))

all_have : list_all has_inverse sizes ≡ true
all_have = refl

-- the inverse of a listed size
pub inverse_low : (bytes : ℕ) → Contains sizes bytes → inverse_of bytes < 2 ^ 32
inverse_low bytes listed =
    ltb-true (inverse_of bytes) (2 ^ 32) (and_parts (nat_lt (inverse_of bytes) (2 ^ 32)) _ (each_passes has_inverse sizes all_have bytes listed)).0

pub inverse_is : (bytes : ℕ) → Contains sizes bytes → IsInverse bytes (inverse_of bytes)
inverse_is bytes listed =
    let two = (and_parts (nat_lt (inverse_of bytes) (2 ^ 32)) _ (each_passes has_inverse sizes all_have bytes listed)).1 in
    let parts = and_parts (nat_le (2 ^ 34) (bytes * inverse_of bytes)) (nat_le (bytes * inverse_of bytes) (2 ^ 34 + 2 ^ 8)) two in
    record {
      from = λ _. leb-true (2 ^ 34) (bytes * inverse_of bytes) parts.0;
      to = λ _. leb-true (bytes * inverse_of bytes) (2 ^ 34 + 2 ^ 8) parts.1;
    }

module _ (offset bytes inverse : ℕ) (some : 0 < bytes) (near : offset < 2 ^ 26) (is : IsInverse bytes inverse) where
  low : 2 ^ 34 * (offset / bytes) ≤ offset * inverse
  low =
      let size = mul-le-mul_right (offset / bytes) (is.from some) in
      let all = mul-le-mul_right inverse (mul-div-le offset bytes) in
      let turned : bytes * inverse * (offset / bytes) ≡ bytes * (offset / bytes) * inverse = omega arith in
      omega (arith, size, all, turned)

  high : offset * inverse < 2 ^ 34 * (offset / bytes + 1)
  high =
      let size = mul-le-mul_left {m = bytes * inverse} {n = 2 ^ 34 + 2 ^ 8} offset (is.to some) in
      let next = lt-div-mul-add {a = offset} {b = bytes} some in
      let more = mul-le-mul_left {m = offset + 1} {n = offset / bytes * bytes + bytes} (2 ^ 34) (omega (arith, next)) in
      let left : bytes * (offset * inverse) ≡ offset * (bytes * inverse) = omega arith in
      let right : bytes * (2 ^ 34 * (offset / bytes + 1)) ≡ 2 ^ 34 * (offset / bytes * bytes + bytes) = omega arith in
      lt_of_mul-lt-mul_left bytes (omega (arith, size, more, left, right, near))

  pub place_is : offset * inverse / 2 ^ 34 ≡ offset / bytes
  place_is = div-eq_of_lt-le (2 ^ 34) (omega (arith, low)) (omega (arith, high))
