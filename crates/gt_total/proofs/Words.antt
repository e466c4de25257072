-- Eight bytes with the bits of a number.
use Rattle.std.proofs.Common.{◌≡◌, ℕ, zero, suc, ◌-◌, ◌^◌, ◌<◌, ◌/◌, refl, ap, sym, ◌∙◌, arith}
use Rattle.std.specs.Prelude.{All, replicate}
use Rattle.std.specs.Int.{byte_at, bytes_low_first}
use Rattle.std.proofs.lemmas.List.Elements.{All-nil, All-cons}
use Rattle.std.proofs.lemmas.Nat.{mod_below}
use Rattle.gt_space.specs.Range.{Range, with_bytes}
use Rattle.gt_tree.specs.Leaves.{bit_of}
use Rattle.gt_tree.specs.FixedLaws.{bit_in}
use Rattle.gt_store.specs.Writing.{Writes}
use Rattle.gt_store.proofs.BitLemmas.{writes-number}

small_byte : (i n : ℕ) → byte_at i n < 256
small_byte zero n = mod_below n 256 (omega arith)
small_byte (suc i) n = mod_below (n / 256 ^ suc i) 256 (omega arith)

pub small_bytes : (i k n : ℕ) → All (λ byte. byte < 256) (bytes_low_first i k n)
small_bytes i zero n = All-nil (λ byte. byte < 256)
small_bytes i (suc k) n = All-cons (λ byte. byte < 256) (byte_at i n) (bytes_low_first (suc i) k n) (small_byte i n) (small_bytes (suc i) k n)

-- eight zero bytes
abbrev zeros : Range
zeros = record { start = 0; bytes = replicate 8 0 }

abbrev put : ℕ → Range
put n = with_bytes zeros 0 (bytes_low_first 0 8 n)

put_writes : (n : ℕ) → Writes 0 64 n zeros (put n)
put_writes n = writes-number zeros 0 8 n refl (omega arith) (put n) refl (record { start = refl; len = refl })

-- a number in eight bytes has their bits
pub word_bits : (n i : ℕ) → i < 64 → bit_of n i ≡ bit_in (bytes_low_first 0 8 n) i
word_bits n i low =
    let back : i ≡ i - 0 = omega arith in
    ap (bit_of n) back ∙ sym ((put_writes n).inside i (omega arith) low)
