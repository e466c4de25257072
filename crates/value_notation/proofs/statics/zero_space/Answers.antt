use Rattle.value_notation.specs.Blocks.{blocks}
use Rattle.value_notation.specs.Addresses.{addresses}
use Rattle.value_notation.proofs.Rereads.{inside-start, statics-stored}
use Rattle.value_notation.proofs.statics.zero_space.Goals as goal

pub store_statics-requires-clause-fits : goal.store_statics-requires-clause-fits
store_statics-requires-clause-fits c =
    let zero = c.in_ok-values.ensures.zero in
    (zero.0, zero.1, record { blocks = blocks; addresses = addresses; fit = (zero.2 blocks).fits })

pub returns-clause-stands : goal.returns-clause-stands
returns-clause-stands c =
    let zero = c.in_ok-values.ensures.zero in
    let on = c.args.on.now in
    let size = on.layouts.statics.size in
    let inside = inside-start c.in_ok-space.space c.fill.new.self c.in-Some.room.addr size c.in-Some.ensures.after c.in-Some.ensures.inside c.fill.ensures.addresses in
    (zero.0, statics-stored on.program on.layouts zero.0 c.fill.new.self c.store_statics.new.space c.requires.ready.settled c.requires.ready.laid (zero.2 blocks).fits inside (c.store_statics.ensures.stored zero.0 zero.1))
