use Rattle.std.proofs.Common.{◌≡◌, ◌+◌, ◌^◌, ◌<◌, ℕ, ◌-◌, ◌/◌, sym, ap, ◌∙◌, arith}
use Rattle.std.specs.Prelude.{negsuc, ◌-ℤ◌}
use Rattle.std.proofs.lemmas.Int.{ints}
use mir.Syntax.{w128}
use mir.Val.{to_z, of_z}
use Rattle.gt_value.specs.Reading.{number_from}
use Rattle.gt_value.proofs.BitNumbers.{ones_below, some-shift, number_from-negative}
use Rattle.gt_value.proofs.bits.number_of_bits.Goals as goal

pub overflow_sub-below-then-bits-width-ne0 : goal.overflow_sub-below-then-bits-width-ne0
overflow_sub-below-then-bits-width-ne0 c = let ones = ones_below c.args.width c.requires.some c.requires.small in omega (arith, ones, c.requires.fits)

less-one : (m : ℕ) → m < 2 ^ 64 → to_z w128 (of_z w128 (negsuc 0 -ℤ to_z w128 m)) ≡ negsuc m
less-one m h = omega (arith, ints)

pub returns-then-bits-width-ne0 : goal.returns-then-bits-width-ne0
returns-then-bits-width-ne0 c =
    let n = c.args.bits in
    let width = c.args.width in
    let ones = ones_below width c.requires.some c.requires.small in
    let below : (2 ^ 64 - 1) / 2 ^ (64 - width) - n ≡ 2 ^ width - (n + 1) = omega (arith, ones) in
    let small : (2 ^ 64 - 1) / 2 ^ (64 - width) - n < 2 ^ 64 = omega (arith, Rattle.std.proofs.Math.Nat.div-le_self (2 ^ 64 - 1) (2 ^ (64 - width))) in
    less-one ((2 ^ 64 - 1) / 2 ^ (64 - width) - n) small
    ∙ ap negsuc below
    ∙ sym (number_from-negative width n (some-shift n (width - 1) c.if-bits-width-ne0.true))
    ∙ ap (λ s. number_from s width n) (sym c.if-signed.true)
