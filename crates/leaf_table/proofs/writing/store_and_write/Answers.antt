use Rattle.std.proofs.Common.{sym, subst}
use Rattle.gt_space.specs.Range.{IsInside}
use Rattle.gt_value.specs.Values.{tree_of}
use Rattle.value_notation.proofs.Rereads.{inside-kept, beside-stored}
use Rattle.leaf_table.proofs.writing.store_and_write.Goals as goal

pub store-requires-clause-inside : goal.store-requires-clause-inside
store-requires-clause-inside c size takes =
    let p = c.args.room in
    let filled = inside-kept c.args.space.now c.fill.new.self p.addr p.size c.requires.inside c.fill.ensures.addresses in
    subst (IsInside c.fill.new.self p.addr) (sym (c.requires.only size takes)) filled

pub write_times-requires-clause-inside : goal.write_times-requires-clause-inside
write_times-requires-clause-inside c size takes =
    let p = c.args.room in
    let filled = inside-kept c.args.space.now c.fill.new.self p.addr p.size c.requires.inside c.fill.ensures.addresses in
    let stored = inside-kept c.fill.new.self c.store.new.space p.addr p.size filled c.store.ensures.addresses in
    subst (IsInside c.store.new.space p.addr) (sym (c.requires.only size takes)) stored

pub write_times-requires-clause-stands : goal.write_times-requires-clause-stands
write_times-requires-clause-stands c =
    let p = c.args.room in
    let on = c.args.on.now in
    let filled = inside-kept c.args.space.now c.fill.new.self p.addr p.size c.requires.inside c.fill.ensures.addresses in
    let tree = tree_of c.args.value.now in (
      c.requires.fits.0,
      tree,
      beside-stored on.program on.layouts c.args.capacity c.args.ty.now tree c.fill.new.self c.store.new.space p.addr p.size c.requires.ready.settled c.requires.ready.laid c.requires.element
          c.requires.fits c.requires.takes filled c.store.ensures.stored,
    )
