use Rattle.std.proofs.Common.{◌∙◌, arith}
use Rattle.gt_markers.specs.MarkerFaults.{structure_faults}
use Rattle.gt_markers.proofs.Firsts.{first_from_item, first_from_items}
use Rattle.gt_markers.proofs.draft_faults.of_structures.Goals as goal

pub loop-structure-preserved : goal.loop-structure-preserved
loop-structure-preserved c =
    first_from_item (structure_faults c.args.draft.now) c.loop-structure.earliest c.in_ok-earliest.earliest c.loop-structure.structure-index c.args.structures.now c.structure-item.result
    c.loop-structure-test.true c.structure-item.is c.in_ok-earliest.ensures.earliest
    ∙ c.loop-structure.invariant

pub returns : goal.returns
returns c =
    record {
      earliest =
          first_from_items (structure_faults c.args.draft.now) c.loop-structure.earliest c.loop-structure.structure-index c.args.structures.now (omega arith) ∙ c.loop-structure.invariant;
    }
