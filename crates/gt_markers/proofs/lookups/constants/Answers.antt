use Rattle.std.proofs.Common.{◌∙◌}
use Rattle.gt_markers.proofs.LookupLemmas.{constants_more}
use Rattle.gt_markers.proofs.lookups.constants.Goals as goal

pub loop-constant-preserved : goal.loop-constant-preserved
loop-constant-preserved c =
    constants_more c.loop-constant.made c.in_ok-made.made c.args.constants.now c.loop-constant.constant-index c.constant-item.result c.loop-constant-test.true
    c.constant-item.is c.in_ok-made.ensures.made
    ∙ c.loop-constant.invariant
