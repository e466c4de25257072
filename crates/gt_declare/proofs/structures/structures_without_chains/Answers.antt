use Rattle.gt_declare.proofs.LayingSteps.{small_structure}
use Rattle.gt_declare.proofs.structures.structures_without_chains.Goals as goal

pub structure_without_chains-requires-clause-small : goal.structure_without_chains-requires-clause-small
structure_without_chains-requires-clause-small c =
    small_structure c.args.draft.now c.as_slice-structure-items.result.now c.loop-structure.structure-index c.structure-item.result c.requires.sound c.as_slice-structure-items.ensures.items
    c.loop-structure-test.true c.structure-item.is
