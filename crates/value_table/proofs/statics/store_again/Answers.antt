use Rattle.value_table.proofs.statics.store_again.Goals as goal

pub store_statics-requires-clause-fits : goal.store_statics-requires-clause-fits
store_statics-requires-clause-fits c =
    let stands = c.requires.stands.1 in
    (c.requires.stands.0, c.in_ok-values.ensures.value c.requires.stands.0 stands, record { blocks = stands.blocks; addresses = stands.addresses; fit = stands.are.fit })
