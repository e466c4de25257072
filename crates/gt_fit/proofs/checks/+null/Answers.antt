use Rattle.gt_fit.proofs.Layers.{granted, refused}
use Rattle.gt_fit.proofs.PartsFit.{bare-more, bare-stop, bare-done}
use Rattle.gt_fit.proofs.checks.+null.Goals as goal

pub all_bare-loop-part-preserved : goal.all_bare-loop-part-preserved
all_bare-loop-part-preserved t c =
    bare-more c.args.parts.now c.loop-part.part-index c.part-item.result c.loop-part-test.true c.part-item.is (granted c.is_bare.result _ c.is_bare.ensures c.if-not-is_bare.false) c.loop-part.invariant

pub all_bare-returns-then-not-is_bare : goal.all_bare-returns-then-not-is_bare
all_bare-returns-then-not-is_bare t c =
    bare-stop c.args.parts.now c.loop-part.part-index c.part-item.result c.loop-part-test.true c.part-item.is (refused c.is_bare.result _ c.is_bare.ensures c.if-not-is_bare.true) c.loop-part.invariant

pub all_bare-returns : goal.all_bare-returns
all_bare-returns t c = bare-done c.args.parts.now c.loop-part.part-index c.loop-part-test.false c.loop-part.invariant
