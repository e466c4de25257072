use Rattle.std.proofs.Common.{sym, subst}
use Rattle.std.proofs.lemmas.Result.{IfOk-weaker}
use Rattle.gt_space.specs.Range.{IsInside}
use Rattle.gt_value.specs.Values.{tree_of}
use Rattle.gt_assign.specs.Results.{FitsBeside}
use Rattle.value_notation.specs.Blocks.{blocks}
use Rattle.value_notation.specs.Addresses.{addresses}
use Rattle.value_notation.proofs.Rereads.{inside-kept, stands-stored}
use Rattle.edges_table.proofs.elements.store_and_read.Goals as goal

pub store-requires-clause-inside : goal.store-requires-clause-inside
store-requires-clause-inside c size takes =
    let p = c.args.site.room in
    let filled = inside-kept c.args.space.now c.fill.new.self p.addr p.size c.requires.inside c.fill.ensures.addresses in
    subst (IsInside c.fill.new.self p.addr) (sym (c.requires.site.only size takes)) filled

pub read-requires-clause-inside : goal.read-requires-clause-inside
read-requires-clause-inside c size takes =
    let p = c.args.site.room in
    let filled = inside-kept c.args.space.now c.fill.new.self p.addr p.size c.requires.inside c.fill.ensures.addresses in
    let stored = inside-kept c.fill.new.self c.store.new.space p.addr p.size filled c.store.ensures.addresses in
    subst (IsInside c.store.new.space p.addr) (sym (c.requires.site.only size takes)) stored

pub read-requires-clause-stands : goal.read-requires-clause-stands
read-requires-clause-stands c =
    let s = c.args.site in
    let p = s.room in
    let on = c.args.on.now in
    let filled = inside-kept c.args.space.now c.fill.new.self p.addr p.size c.requires.inside c.fill.ensures.addresses in
    let tree = tree_of c.args.value.now in (
      tree,
      stands-stored on.program on.layouts s.capacity s.ty.now tree c.fill.new.self c.store.new.space p.addr p.size c.requires.ground.settled c.requires.ground.laid c.requires.site.element
          c.requires.fits c.requires.site.takes filled c.store.ensures.stored,
    )

pub returns-clause-fits : goal.returns-clause-fits
returns-clause-fits c =
    let s = c.args.site in
    let p = s.room in
    let on = c.args.on.now in
    let filled = inside-kept c.args.space.now c.fill.new.self p.addr p.size c.requires.inside c.fill.ensures.addresses in
    let tree = tree_of c.args.value.now in
    let stands = stands-stored on.program on.layouts s.capacity s.ty.now tree c.fill.new.self c.store.new.space p.addr p.size c.requires.ground.settled c.requires.ground.laid c.requires.site.element
    c.requires.fits c.requires.site.takes filled c.store.ensures.stored in
    IfOk-weaker c.read.result _ _ (λ v same. subst (FitsBeside on.program blocks s.capacity s.ty.now) (sym (same tree stands)) c.requires.fits) c.read.ensures.value

pub store-requires-clause-fits : goal.store-requires-clause-fits
store-requires-clause-fits c = record { blocks = blocks; statics = c.requires.fits.0; addresses = addresses; fits = c.requires.fits.1 }
