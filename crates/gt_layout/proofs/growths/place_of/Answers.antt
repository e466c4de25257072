use Rattle.std.proofs.Common.{◌+◌, ◌-◌, ◌/◌, arith}
use Rattle.gt_layout.proofs.Growing.{between-lower, between-upper, place-between}
use Rattle.gt_layout.proofs.growths.place_of.Goals as goal

pub loop-low-preserved-then-tails-middle : goal.loop-low-preserved-then-tails-middle
loop-low-preserved-then-tails-middle c =
    between-upper c.args.elem_size c.args.tails.now c.loop-low.low c.loop-low.high (c.loop-low.low + (c.loop-low.high - c.loop-low.low) / 2) (record { offset = 0; elem_size = 0 }) c.requires c.loop-low.invariant
    (omega (arith, c.loop-low-test.true)) c.if-tails-middle.true

pub loop-low-preserved : goal.loop-low-preserved
loop-low-preserved c =
    between-lower c.args.elem_size c.args.tails.now c.loop-low.low c.loop-low.high (c.loop-low.low + (c.loop-low.high - c.loop-low.low) / 2) (record { offset = 0; elem_size = 0 }) c.requires c.loop-low.invariant
    (omega arith) (omega (arith, c.loop-low-test.true)) c.if-tails-middle.false

pub returns : goal.returns
returns c = place-between c.args.elem_size c.args.tails.now c.loop-low.low c.loop-low.high c.loop-low.invariant (omega (arith, c.loop-low-test.false))
