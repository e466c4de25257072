use Rattle.std.proofs.Common.{◌≡◌, ◌+◌, ◌-◌, ◌^◌, ◌<◌, ap, sym, ◌∙◌, subst, arith}
use Rattle.gt_value.specs.Reading.{bits_from, bits_number}
use Rattle.gt_value.proofs.BitNumbers.{bits_number-zero, bits_number-below, one_more-bit}
use Rattle.gt_value.proofs.bits.collect_bits.Goals as goal

pub loop-i-init : goal.loop-i-init
loop-i-init c =
    let bits = bits_from c.args.space.now c.args.from in
    let none : c.args.width - c.args.width ≡ 0 = omega arith in
    record {
      number = sym (ap (bits_number bits (c.args.at + c.args.width)) none ∙ bits_number-zero bits (c.args.at + c.args.width));
      small = subst (λ n. 0 < 2 ^ n) (sym none) (omega arith);
    }

pub overflow_add-at : goal.overflow_add-at
overflow_add-at c = omega (arith, c.requires.near)

pub loop-i-preserved : goal.loop-i-preserved
loop-i-preserved c =
    let bits = bits_from c.args.space.now c.args.from in
    let is = one_more-bit bits c.args.at c.loop-i.i c.args.width c.loop-i.number c.bit.result (omega arith) (omega arith) c.loop-i.invariant.number c.bit.ensures in
    record {
      number = is;
      small = subst (λ n. n < 2 ^ (c.args.width - (c.loop-i.i - 1))) (sym is) (bits_number-below bits (c.args.at + (c.loop-i.i - 1)) (c.args.width - (c.loop-i.i - 1)));
    }
