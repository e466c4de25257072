use Rattle.std.proofs.Common.{◌+◌, ◌-◌, ◌*◌, ◌≤◌, sym, subst, length, arith}
use Rattle.gt_value.specs.Values.{tree_of}
use Rattle.gt_store.specs.declared.stores.TheConstants.{MAX_BITS}
use Rattle.gt_store.specs.Overlays.{CanStore, IsWritten}
use Rattle.gt_store.proofs.Putting.{can-put, put-stored}
use Rattle.gt_store.proofs.storing.store.Goals as goal

pub store_value-requires-clause-can : goal.store_value-requires-clause-can
store_value-requires-clause-can c =
    let inside = c.requires.inside c.size_at-size.result c.size_at-size.ensures in
    let space = c.start.ensures.every_space in
    let room : 8 * (c.args.addr - c.args.space.now.start) + 8 * c.size_at-size.result ≤ 8 * length c.fill.new.self.bytes = omega (arith, inside.from_start, inside.to_end, c.fill.ensures.addresses.len) in
    let short : 8 * length c.fill.new.self.bytes ≤ MAX_BITS = omega (arith, space.ends, c.fill.ensures.addresses.len) in
    subst (λ s. CanStore c.args.program.now c.args.layouts.now.structures c.fill.new.self (8 * (c.args.addr - s)) c.args.ty.now (tree_of c.args.value.now)) (sym c.start.ensures.start)
    (can-put c.args.program.now c.args.layouts.now c.args.capacity c.args.ty.now c.requires.settled c.requires.laid c.requires.element (tree_of c.args.value.now) c.requires.fits c.size_at-size.result c.size_at-size.ensures c.fill.new.self (8 * (c.args.addr - c.args.space.now.start))
    (omega arith) room short)

pub returns-clause-stored : goal.returns-clause-stored
returns-clause-stored c =
    let inside = c.requires.inside c.size_at-size.result c.size_at-size.ensures in
    put-stored c.args.program.now c.args.layouts.now c.args.capacity c.args.ty.now c.requires.settled c.requires.laid c.requires.element (tree_of c.args.value.now) c.requires.fits c.size_at-size.result c.size_at-size.ensures c.args.space.now c.fill.new.self c.store_value.new.space
    c.args.addr inside c.fill.ensures.bytes c.fill.ensures.addresses c.start.ensures.every_space.bytes
    (subst (λ s. IsWritten c.args.program.now c.args.layouts.now.structures (8 * (c.args.addr - s)) c.args.ty.now (tree_of c.args.value.now) c.fill.new.self c.store_value.new.space) c.start.ensures.start c.store_value.ensures.stored)
