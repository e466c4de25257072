use Rattle.gt_value.proofs.unions.common_place.Goals as goal

pub returns : goal.returns
returns c = c.common_place.ensures c.args.program.now c.args.structure.now c.requires.laid.unions c.requires.settled c.requires.has c.requires.union
