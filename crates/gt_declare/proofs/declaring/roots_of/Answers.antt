use Rattle.gt_declare.proofs.LayingSteps.{small_root}
use Rattle.gt_declare.proofs.declaring.roots_of.Goals as goal

pub root_of-requires-clause-small : goal.root_of-requires-clause-small
root_of-requires-clause-small c =
    small_root c.args.draft.now c.as_slice-root-items.result.now c.loop-root.root-index c.root-item.result c.requires.sound c.as_slice-root-items.ensures.items c.loop-root-test.true c.root-item.is
