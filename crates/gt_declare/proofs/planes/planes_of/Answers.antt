use Rattle.std.proofs.Common.{arith}
use Rattle.gt_declare.proofs.Ideals.{not_deep}
use Rattle.gt_declare.proofs.LayingSteps.{one_laid_more, all_held}
use Rattle.gt_declare.proofs.planes.planes_of.Goals as goal

pub lay_out-requires-clause-shallow : goal.lay_out-requires-clause-shallow
lay_out-requires-clause-shallow c = not_deep c.args.draft.now c.loop-place.place c.requires.sound

pub loop-place-preserved : goal.loop-place-preserved
loop-place-preserved c =
    one_laid_more c.args.draft.now c.loop-place.known.items c.lay_out.new.known.items c.loop-place.place c.loop-place.invariant c.in_ok-lay_out.ensures.grows c.in_ok-lay_out.ensures.laid

pub returns : goal.returns
returns c =
    record { held = all_held c.args.draft.now c.loop-place.known.items c.loop-place.place c.loop-place.invariant (omega (arith, c.loop-place-test.false, c.len-place-end.ensures.items)) }
