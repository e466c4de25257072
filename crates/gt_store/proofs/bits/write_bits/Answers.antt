use Rattle.std.proofs.Common.{ap, sym, arith}
use Rattle.std.specs.Prelude.{◌==◌}
use Rattle.std.proofs.lemmas.Nat.Bits.{shr_and_one}
use Rattle.gt_store.proofs.BitLemmas.{writes-more}
use Rattle.gt_store.proofs.bits.write_bits.Goals as goal

pub overflow_add-at : goal.overflow_add-at
overflow_add-at c = omega (arith, c.requires.near, c.requires.few, c.loop-i-test.true)

pub loop-i-preserved : goal.loop-i-preserved
loop-i-preserved c =
    writes-more c.args.space.now c.loop-i.space c.write_bit.new.space c.args.at c.loop-i.i c.args.bits _ (sym (ap (λ b. b == 1) (shr_and_one c.args.bits c.loop-i.i))) c.loop-i.invariant c.write_bit.ensures
