use Rattle.std.proofs.Common.{arith}
use Rattle.gt_layout.proofs.Laying.{one_laid_more, all_laid}
use Rattle.gt_layout.proofs.order.lay_out_all.Goals as goal

pub loop-place-preserved : goal.loop-place-preserved
loop-place-preserved c =
    one_laid_more c.args.program.now c.loop-place.known.items c.lay_out.new.known.items c.loop-place.place c.loop-place.invariant c.in_ok-lay_out.ensures.grows c.in_ok-lay_out.ensures.laid

pub returns : goal.returns
returns c = all_laid c.args.program.now c.loop-place.known.items c.loop-place.place c.loop-place.invariant (omega (arith, c.loop-place-test.false, c.len-place-end.ensures.items))
