-- Eight bytes with the bits of a number.
use Rattle.std.proofs.Common.{◌≡◌, ℕ, zero, suc, ◌+◌, ◌-◌, ◌*◌, ◌/◌, ◌%◌, ◌<◌, Bool, true, false, nat_lt, List, ◌∷◌, length, get_or, refl, ap, sym, ◌∙◌, arith}
use Rattle.std.specs.Prelude.{All}
use Rattle.std.proofs.lemmas.Bool.{ltb-true, ltb-false}
use Rattle.std.proofs.lemmas.List.Elements.{All-nil, All-cons}
use Rattle.gt_tree.specs.Leaves.{bit_of}
use Rattle.gt_tree.specs.FixedLaws.{bit_in}
use Rattle.gt_value.specs.Reading.{bits_number, byte_numbers}
use Rattle.gt_value.proofs.BitNumbers.{bits_number-below, bits_number-bit}

pub bytes-long : (bits : ℕ → Bool) (at n : ℕ) → length (byte_numbers bits at n) ≡ n
bytes-long bits at zero = refl
bytes-long bits at (suc n) = ap suc (bytes-long bits (at + 8) n)

pub bytes-small : (bits : ℕ → Bool) (at n : ℕ) → All (λ byte. byte < 256) (byte_numbers bits at n)
bytes-small bits at zero = All-nil (λ byte. byte < 256)
bytes-small bits at (suc n) = All-cons (λ byte. byte < 256) (bits_number bits at 8) (byte_numbers bits (at + 8) n) (bits_number-below bits at 8) (bytes-small bits (at + 8) n)

pub bytes-bit : (bits : ℕ → Bool) (at n i : ℕ) → i < 8 * n → bits (at + i) ≡ bit_in (byte_numbers bits at n) i
bytes-bit bits at zero i lt = absurd (omega arith)
bytes-bit bits at (suc n) i lt = go (nat_lt i 8) refl (bytes-bit bits (at + 8) n (i - 8))
  where
    rest : List ℕ
    rest = byte_numbers bits (at + 8) n

    byte : ℕ
    byte = bits_number bits at 8

    go : (t : Bool) → nat_lt i 8 ≡ t → (i - 8 < 8 * n → bits (at + 8 + (i - 8)) ≡ bit_in rest (i - 8)) → bits (at + i) ≡ bit_in (byte ∷ rest) i
    go true e later =
        let low = ltb-true i 8 e in
        let q : 0 ≡ i / 8 = omega arith in
        let r : i ≡ i % 8 = omega arith in
        sym (bits_number-bit bits at 8 i low) ∙ ap (λ k. bit_of byte k) r ∙ ap (λ k. bit_of (get_or (byte ∷ rest) k 0) (i % 8)) q
    go false e later =
        let high = ltb-false i 8 e in
        let there : at + i ≡ at + 8 + (i - 8) = omega (arith, high) in
        let q : suc ((i - 8) / 8) ≡ i / 8 = omega (arith, high) in
        let r : (i - 8) % 8 ≡ i % 8 = omega (arith, high) in
        ap bits there ∙ later (omega (arith, high, lt)) ∙ ap (λ k. bit_of (get_or rest ((i - 8) / 8) 0) k) r ∙ ap (λ k. bit_of (get_or (byte ∷ rest) k 0) (i % 8)) q
