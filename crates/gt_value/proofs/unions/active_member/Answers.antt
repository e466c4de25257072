use Rattle.gt_value.proofs.unions.active_member.Goals as goal

pub returns : goal.returns
returns c = c.active_member.ensures.place c.args.program.now c.args.structure.now c.requires.laid.unions c.requires.has
