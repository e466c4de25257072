use Rattle.value_notation.proofs.Rereads.{takes-only}
use Rattle.value_notation.proofs.trials.size_of.Goals as goal

pub returns-clause-only : goal.returns-clause-only
returns-clause-only c =
    let on = c.args.on.now in
    takes-only on.program on.layouts c.args.capacity c.args.ty.now c.args.id c.size.result c.requires.ready.settled c.requires.ready.laid c.requires.stands c.requires.element c.size.ensures
