use Rattle.std.proofs.Common.{sym, subst}
use Rattle.gt_space.specs.Range.{IsInside}
use Rattle.gt_value.specs.Values.{tree_of}
use Rattle.value_notation.specs.Blocks.{blocks}
use Rattle.value_notation.specs.Addresses.{addresses}
use Rattle.value_notation.proofs.Rereads.{inside-kept, stands-stored}
use Rattle.value_table.proofs.repeats.store_and_read.Goals as goal

pub store-requires-clause-inside : goal.store-requires-clause-inside
store-requires-clause-inside c size takes = subst (IsInside c.args.space.now c.args.room.addr) (sym (c.requires.only size takes)) c.requires.inside

pub store-requires-clause-fits : goal.store-requires-clause-fits
store-requires-clause-fits c = record { blocks = blocks; statics = c.requires.fits.0; addresses = addresses; fits = c.requires.fits.1 }

pub read_times-requires-clause-inside : goal.read_times-requires-clause-inside
read_times-requires-clause-inside c size takes =
    let p = c.args.room in
    subst (IsInside c.store.new.space p.addr) (sym (c.requires.only size takes)) (inside-kept c.args.space.now c.store.new.space p.addr p.size c.requires.inside c.store.ensures.addresses)

pub read_times-requires-clause-stands : goal.read_times-requires-clause-stands
read_times-requires-clause-stands c =
    let p = c.args.room in
    let on = c.args.on.now in
    let tree = tree_of c.args.value.now in (
      tree,
      stands-stored on.program on.layouts c.args.capacity c.args.ty.now tree c.args.space.now c.store.new.space p.addr p.size c.requires.ready.settled c.requires.ready.laid c.requires.element
          c.requires.fits c.requires.takes c.requires.inside c.store.ensures.stored,
    )
