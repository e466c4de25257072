use Rattle.std.proofs.Common.{sym, subst}
use Rattle.gt_space.specs.Range.{IsInside}
use Rattle.value_notation.specs.Blocks.{blocks}
use Rattle.value_notation.specs.Addresses.{addresses}
use Rattle.value_notation.proofs.Rereads.{inside-kept, keeps-both}
use Rattle.value_table.proofs.repeats.store_times.Goals as goal

pub store-requires-clause-inside : goal.store-requires-clause-inside
store-requires-clause-inside c size takes =
    let p = c.args.room in
    subst (IsInside c.loop.space p.addr) (sym (c.requires.only size takes)) (inside-kept c.args.space.now c.loop.space p.addr p.size c.requires.inside c.loop.invariant)

pub store-requires-clause-fits : goal.store-requires-clause-fits
store-requires-clause-fits c = record { blocks = blocks; statics = c.requires.fits.0; addresses = addresses; fits = c.requires.fits.1 }

pub loop-preserved : goal.loop-preserved
loop-preserved c = keeps-both c.args.space.now c.loop.space c.store.new.space c.loop.invariant c.store.ensures.addresses
