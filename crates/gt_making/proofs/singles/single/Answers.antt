use Rattle.std.proofs.Common.{◌∙◌, ap, Some}
use Rattle.gt_next.specs.Making.{NextNew}
use Rattle.gt_making.proofs.Asked.{leaves-so, kind-may}
use Rattle.gt_making.proofs.Single.{none-given, one-given}
use Rattle.gt_making.proofs.singles.single.Goals as goal

pub returns-in_default-clause-next : goal.returns-in_default-clause-next
returns-in_default-clause-next c = λ told s stands. (s, NextNew.no_type c.in_default.ensures.node, stands.holds)

pub bind_single-requires-clause-node : goal.bind_single-requires-clause-node
bind_single-requires-clause-node c = kind-may c.in-Some.ensures.node

pub bind_single-requires-2-clause-node : goal.bind_single-requires-2-clause-node
bind_single-requires-2-clause-node c = kind-may c.in-Some.ensures.node

pub returns-in_default-n-clause-next : goal.returns-in_default-n-clause-next
returns-in_default-n-clause-next c =
    leaves-so _ _ c.args.s.now c.bind_single.new.s
    (λ s t answer made. none-given c.args.s.now.schema.program c.in-Some.node c.args.s.now.schema.layouts s c.args.var.now c.args.ty.now c.args.n t answer c.in-Some.ensures.node c.in_default-n.is made) c.bind_single.result c.bind_single.ensures.single

pub returns-in_default-natural-clause-next : goal.returns-in_default-natural-clause-next
returns-in_default-natural-clause-next c = λ told s stands. (s, NextNew.negative c.in-Some.ensures.node c.in-Some-n.is c.in_default-natural.ensures.natural, stands.holds)

pub returns-clause-next : goal.returns-clause-next
returns-clause-next c =
    leaves-so _ _ c.args.s.now c.bind_single-2.new.s
    (λ s t answer made.
    one-given c.args.s.now.schema.program c.in-Some.node c.args.s.now.schema.layouts s c.args.var.now c.args.ty.now c.args.n t answer c.in-Some.ensures.node c.in-Some-natural.count
    (c.in-Some-n.is ∙ ap (λ z. Some z) c.in-Some-natural.ensures.natural) made) c.bind_single-2.result c.bind_single-2.ensures.single
