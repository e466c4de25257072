use Rattle.std.proofs.lemmas.Result.{IfOk-weaker}
use Rattle.value_notation.specs.Blocks.{blocks}
use Rattle.value_notation.proofs.Rereads.{inside-lowest, statics-stored}
use Rattle.edges_table.proofs.records.store_and_read.Goals as goal

pub read_statics-requires-clause-stand : goal.read_statics-requires-clause-stand
read_statics-requires-clause-stand c =
    let on = c.args.on.now in
    let fits = c.requires.fits in
    let inside = inside-lowest c.args.space.now c.fill.new.self on.layouts.statics.size c.requires.inside c.fill.ensures.addresses in
    let stand = statics-stored on.program on.layouts fits.0 c.fill.new.self c.store_statics.new.space c.requires.ground.settled c.requires.ground.laid fits.2 inside (c.store_statics.ensures.stored fits.0 fits.1) in
    (fits.0, record { blocks = blocks; addresses = stand.addresses; are = stand.are })

pub returns-clause-fits : goal.returns-clause-fits
returns-clause-fits c =
    let on = c.args.on.now in
    let fits = c.requires.fits in
    let inside = inside-lowest c.args.space.now c.fill.new.self on.layouts.statics.size c.requires.inside c.fill.ensures.addresses in
    let stand = statics-stored on.program on.layouts fits.0 c.fill.new.self c.store_statics.new.space c.requires.ground.settled c.requires.ground.laid fits.2 inside (c.store_statics.ensures.stored fits.0 fits.1) in
    IfOk-weaker c.read_statics.result _ _ (λ v same. (fits.0, same fits.0 (record { blocks = blocks; addresses = stand.addresses; are = stand.are }), fits.2)) c.read_statics.ensures.value
