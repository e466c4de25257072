use Rattle.std.proofs.Common.{◌<◌, sym, subst, refl, arith, length, map, get_or}
use Rattle.std.proofs.lemmas.Option.{slice_get-get_or}
use Rattle.gt_layout.specs.Places.{spot}
use Rattle.gt_layout.proofs.Laying.{read_at}
use Rattle.gt_value.specs.Values.{tree_of, trees}
use Rattle.gt_store.proofs.Walks.{CanFields, FieldsWritten}
use Rattle.gt_store.proofs.Loops.{fields-init, fields-within, fields-part, fields-next, fields-end}
use Rattle.gt_store.proofs.Statics.{roots-long, roots-at, can-statics}
use Rattle.gt_store.proofs.storing.store_roots.Goals as goal

pub loop-i-init : goal.loop-i-init
loop-i-init c =
    fields-init c.args.program.now c.args.layouts.now.structures 0 (map (λ r. r.ty) c.as_slice-roots.result.now) c.as_slice-spots.result.now c.args.values.now c.args.space.now
    (subst (λ rs. CanFields c.args.program.now c.args.layouts.now.structures c.args.space.now 0 (map (λ r. r.ty) rs) c.as_slice-spots.result.now (trees (map tree_of c.args.values.now))) (sym c.as_slice-roots.ensures.items)
    (subst (λ ss. CanFields c.args.program.now c.args.layouts.now.structures c.args.space.now 0 (map (λ r. r.ty) c.args.program.now.roots) ss (trees (map tree_of c.args.values.now))) (sym c.as_slice-spots.ensures.items)
    (can-statics c.args.program.now c.args.layouts.now c.requires.settled c.requires.laid (trees (map tree_of c.args.values.now)) c.requires.fits c.args.space.now c.requires.inside c.requires.short)))

pub offset_bounds-roots-i : goal.offset_bounds-roots-i
offset_bounds-roots-i c =
    let got = read_at c.args.values.now c.args.values.now c.loop-i.i c.index-values-i.result refl c.loop-i-test.true c.index-values-i.is in
    let within = fields-within c.args.program.now c.args.layouts.now.structures 0 (map (λ r. r.ty) c.as_slice-roots.result.now) c.as_slice-spots.result.now c.args.values.now c.loop-i.i c.args.space.now c.loop-i.space c.index-values-i.result got c.loop-i.invariant in
    let in_roots : c.loop-i.i < length c.as_slice-roots.result.now = omega (arith, within.0, roots-long c.as_slice-roots.result.now) in
    record { fits = omega (arith, in_roots, c.as_slice-roots.type_inv.1) }

pub bounds-roots-i : goal.bounds-roots-i
bounds-roots-i c =
    let got = read_at c.args.values.now c.args.values.now c.loop-i.i c.index-values-i.result refl c.loop-i-test.true c.index-values-i.is in
    let within = fields-within c.args.program.now c.args.layouts.now.structures 0 (map (λ r. r.ty) c.as_slice-roots.result.now) c.as_slice-spots.result.now c.args.values.now c.loop-i.i c.args.space.now c.loop-i.space c.index-values-i.result got c.loop-i.invariant in
    omega (arith, within.0, roots-long c.as_slice-roots.result.now)

pub bounds-spots-i : goal.bounds-spots-i
bounds-spots-i c =
    let got = read_at c.args.values.now c.args.values.now c.loop-i.i c.index-values-i.result refl c.loop-i-test.true c.index-values-i.is in
    let within = fields-within c.args.program.now c.args.layouts.now.structures 0 (map (λ r. r.ty) c.as_slice-roots.result.now) c.as_slice-spots.result.now c.args.values.now c.loop-i.i c.args.space.now c.loop-i.space c.index-values-i.result got c.loop-i.invariant in
    within.1

pub store_part-requires-clause-can : goal.store_part-requires-clause-can
store_part-requires-clause-can c =
    let got = read_at c.args.values.now c.args.values.now c.loop-i.i c.index-values-i.result refl c.loop-i-test.true c.index-values-i.is in
    let within = fields-within c.args.program.now c.args.layouts.now.structures 0 (map (λ r. r.ty) c.as_slice-roots.result.now) c.as_slice-spots.result.now c.args.values.now c.loop-i.i c.args.space.now c.loop-i.space c.index-values-i.result got c.loop-i.invariant in
    let in_roots : c.loop-i.i < length c.as_slice-roots.result.now = omega (arith, within.0, roots-long c.as_slice-roots.result.now) in
    let typed = roots-at c.as_slice-roots.result.now c.loop-i.i (get_or c.as_slice-roots.result.now c.loop-i.i c.index-roots-i.result) (slice_get-get_or c.as_slice-roots.result.now c.loop-i.i c.index-roots-i.result in_roots) in
    let placed = slice_get-get_or c.as_slice-spots.result.now c.loop-i.i (spot 0 0) within.1 in
    fields-part c.args.program.now c.args.layouts.now.structures 0 (map (λ r. r.ty) c.as_slice-roots.result.now) c.as_slice-spots.result.now c.args.values.now c.loop-i.i c.args.space.now c.loop-i.space c.index-values-i.result got c.loop-i.invariant (get_or c.as_slice-roots.result.now c.loop-i.i c.index-roots-i.result).ty (get_or c.as_slice-spots.result.now c.loop-i.i (spot 0 0)) typed placed

pub loop-i-preserved : goal.loop-i-preserved
loop-i-preserved c =
    let got = read_at c.args.values.now c.args.values.now c.loop-i.i c.index-values-i.result refl c.loop-i-test.true c.index-values-i.is in
    let within = fields-within c.args.program.now c.args.layouts.now.structures 0 (map (λ r. r.ty) c.as_slice-roots.result.now) c.as_slice-spots.result.now c.args.values.now c.loop-i.i c.args.space.now c.loop-i.space c.index-values-i.result got c.loop-i.invariant in
    let in_roots : c.loop-i.i < length c.as_slice-roots.result.now = omega (arith, within.0, roots-long c.as_slice-roots.result.now) in
    let typed = roots-at c.as_slice-roots.result.now c.loop-i.i (get_or c.as_slice-roots.result.now c.loop-i.i c.index-roots-i.result) (slice_get-get_or c.as_slice-roots.result.now c.loop-i.i c.index-roots-i.result in_roots) in
    let placed = slice_get-get_or c.as_slice-spots.result.now c.loop-i.i (spot 0 0) within.1 in
    fields-next c.args.program.now c.args.layouts.now.structures 0 (map (λ r. r.ty) c.as_slice-roots.result.now) c.as_slice-spots.result.now c.args.values.now c.loop-i.i c.args.space.now c.loop-i.space c.index-values-i.result got c.loop-i.invariant (get_or c.as_slice-roots.result.now c.loop-i.i c.index-roots-i.result).ty (get_or c.as_slice-spots.result.now c.loop-i.i (spot 0 0)) typed placed c.store_part.new.space c.store_part.ensures.addresses c.store_part.ensures.stored

pub returns-clause-stored : goal.returns-clause-stored
returns-clause-stored c =
    let all = fields-end c.args.program.now c.args.layouts.now.structures 0 (map (λ r. r.ty) c.as_slice-roots.result.now) c.as_slice-spots.result.now c.args.values.now c.loop-i.i c.args.space.now c.loop-i.space (omega (arith, c.loop-i-test.false)) c.loop-i.invariant in
    subst (λ ss. FieldsWritten c.args.program.now c.args.layouts.now.structures 0 (map (λ r. r.ty) c.args.program.now.roots) ss (trees (map tree_of c.args.values.now)) c.args.space.now c.loop-i.space) c.as_slice-spots.ensures.items
    (subst (λ rs. FieldsWritten c.args.program.now c.args.layouts.now.structures 0 (map (λ r. r.ty) rs) c.as_slice-spots.result.now (trees (map tree_of c.args.values.now)) c.args.space.now c.loop-i.space) c.as_slice-roots.ensures.items all)
