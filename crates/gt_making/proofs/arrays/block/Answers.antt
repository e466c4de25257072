use Rattle.gt_next.specs.Making.{NextBlock}
use Rattle.gt_making.proofs.Asked.{leaves-so, as-block}
use Rattle.gt_making.proofs.Sizing.{raw-some}
use Rattle.gt_making.proofs.arrays.block.Goals as goal

pub returns-in_default-clause-next : goal.returns-in_default-clause-next
returns-in_default-clause-next c = λ told s stands. (s, NextBlock.negative c.in_default.ensures.natural, stands.holds)

pub bind_many-requires-clause-some : goal.bind_many-requires-clause-some
bind_many-requires-clause-some c = raw-some c.args.s.now.schema.program c.args.s.now.schema.layouts

pub returns-clause-next : goal.returns-clause-next
returns-clause-next c =
    leaves-so _ _ c.args.s.now c.bind_many.new.s
    (as-block c.args.s.now.schema.program c.args.s.now.schema.layouts c.args.var.now c.args.n c.in-Some.count c.in-Some.ensures.natural) c.bind_many.result c.bind_many.ensures.many
