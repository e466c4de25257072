use Rattle.std.proofs.Common.{◌∙◌, arith}
use Rattle.gt_markers.specs.MarkerFaults.{root_faults}
use Rattle.gt_markers.proofs.Firsts.{first_from_item, first_from_items}
use Rattle.gt_markers.proofs.draft_faults.of_roots.Goals as goal

pub loop-root-preserved : goal.loop-root-preserved
loop-root-preserved c =
    first_from_item (root_faults c.args.draft.now) c.loop-root.earliest c.in_ok-earliest.earliest c.loop-root.root-index c.args.roots.now c.root-item.result
    c.loop-root-test.true c.root-item.is c.in_ok-earliest.ensures.earliest
    ∙ c.loop-root.invariant

pub returns : goal.returns
returns c =
    record {
      earliest =
          first_from_items (root_faults c.args.draft.now) c.loop-root.earliest c.loop-root.root-index c.args.roots.now (omega arith) ∙ c.loop-root.invariant;
    }
