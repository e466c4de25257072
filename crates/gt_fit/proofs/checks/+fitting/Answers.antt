use Rattle.std.proofs.Common.{◌≡◌, ◌↔◌, IsTrue, List, map, ap, sym, subst, ◌∙◌, rules, arith}
use Rattle.gt_types.specs.declared.types.Ty.{Ty, out-Ty}
use Rattle.gt_types.specs.declared.types.Ty.TheVariants as ty
use Rattle.gt_types.specs.declared.program.Field.{Field}
use Rattle.gt_tree.specs.Fits.{Fits}
use Rattle.gt_tree.specs.Trees.{Tree, Num, Null, To, Raw, Rec, Alt, Row}
use Rattle.gt_tree.specs.PathLaws.{has_room_in}
use Rattle.gt_value.specs.declared.values.Value.{Value}
use Rattle.gt_value.specs.Values.{trees, tree_of}
use Rattle.gt_fit.specs.Scoping.{scope_of}
use Rattle.gt_fit.specs.Fitting.{RecFits, AltFits}
use Rattle.gt_fit.proofs.Layers.{alike, granted, refused, by-layer, arr-uneven, arr-even, tail-wrong, tail-right}
use Rattle.gt_fit.proofs.PartsFit.{EachDoes, fields-uneven, fields-more, fields-stop, fields-done, each-more, each-stop, each-done}
use Rattle.gt_fit.proofs.Values.{num-tree, null-tree, to-tree, raw-tree, rec-tree, alt-tree, row-tree}
use Rattle.gt_fit.proofs.checks.+fitting.Goals as goal

-- ---- fields

pub fields_fit-returns-then-parts-fields : goal.fields_fit-returns-then-parts-fields
fields_fit-returns-then-parts-fields g t c = fields-uneven c.args.on.now.program.now (g.N.BlockNames.blocks c.args.on.now.names.now) c.args.on.now.capacity (scope_of c.args.inner.now) (λ (f : Field). f.ty) c.args.fields.now c.args.parts.now c.if-parts-fields.true

pub fields_fit-loop-i-preserved : goal.fields_fit-loop-i-preserved
fields_fit-loop-i-preserved g t c =
    fields-more c.args.on.now.program.now (g.N.BlockNames.blocks c.args.on.now.names.now) c.args.on.now.capacity (scope_of c.args.inner.now) (λ (f : Field). f.ty) c.args.fields.now c.args.parts.now c.loop-i.i c.index-fields-i.result c.index-parts-i.result (omega arith) c.index-fields-i.is c.loop-i-test.true c.index-parts-i.is
    (granted c.fits.result _ (subst (λ (f : Field). IsTrue c.fits.result ↔ Fits c.args.on.now.program.now (g.N.BlockNames.blocks c.args.on.now.names.now) c.args.on.now.capacity (scope_of c.args.inner.now) f.ty (tree_of c.index-parts-i.result)) (sym c.index-fields-i.is) c.fits.ensures) c.if-not-fits.false) c.loop-i.invariant

pub fields_fit-returns-then-not-fits : goal.fields_fit-returns-then-not-fits
fields_fit-returns-then-not-fits g t c =
    fields-stop c.args.on.now.program.now (g.N.BlockNames.blocks c.args.on.now.names.now) c.args.on.now.capacity (scope_of c.args.inner.now) (λ (f : Field). f.ty) c.args.fields.now c.args.parts.now c.loop-i.i c.index-fields-i.result c.index-parts-i.result (omega arith) c.index-fields-i.is c.loop-i-test.true c.index-parts-i.is
    (refused c.fits.result _ (subst (λ (f : Field). IsTrue c.fits.result ↔ Fits c.args.on.now.program.now (g.N.BlockNames.blocks c.args.on.now.names.now) c.args.on.now.capacity (scope_of c.args.inner.now) f.ty (tree_of c.index-parts-i.result)) (sym c.index-fields-i.is) c.fits.ensures) c.if-not-fits.true) c.loop-i.invariant

pub fields_fit-returns : goal.fields_fit-returns
fields_fit-returns g t c = fields-done c.args.on.now.program.now (g.N.BlockNames.blocks c.args.on.now.names.now) c.args.on.now.capacity (scope_of c.args.inner.now) (λ (f : Field). f.ty) c.args.fields.now c.args.parts.now c.loop-i.i c.if-parts-fields.false c.loop-i-test.false c.loop-i.invariant

-- ---- elements

pub each_fits-loop-part-preserved : goal.each_fits-loop-part-preserved
each_fits-loop-part-preserved g t c =
    each-more c.args.on.now.program.now (g.N.BlockNames.blocks c.args.on.now.names.now) c.args.on.now.capacity (scope_of c.args.within.now) c.args.elem.now c.args.parts.now c.loop-part.part-index c.part-item.result c.loop-part-test.true c.part-item.is
    (granted c.fits.result _ c.fits.ensures c.if-not-fits.false) c.loop-part.invariant

pub each_fits-returns-then-not-fits : goal.each_fits-returns-then-not-fits
each_fits-returns-then-not-fits g t c =
    each-stop c.args.on.now.program.now (g.N.BlockNames.blocks c.args.on.now.names.now) c.args.on.now.capacity (scope_of c.args.within.now) c.args.elem.now c.args.parts.now c.loop-part.part-index c.part-item.result c.loop-part-test.true c.part-item.is
    (refused c.fits.result _ c.fits.ensures c.if-not-fits.true) c.loop-part.invariant

pub each_fits-returns : goal.each_fits-returns
each_fits-returns g t c = each-done c.args.on.now.program.now (g.N.BlockNames.blocks c.args.on.now.names.now) c.args.on.now.capacity (scope_of c.args.within.now) c.args.elem.now c.args.parts.now c.loop-part.part-index c.loop-part-test.false c.loop-part.invariant

-- ---- arrays

pub row_fits-returns-then-parts-n : goal.row_fits-returns-then-parts-n
row_fits-returns-then-parts-n g t c = arr-uneven c.args.on.now.program.now c.requires.settled (g.N.BlockNames.blocks c.args.on.now.names.now) c.args.on.now.capacity (scope_of c.args.within.now) c.args.ty.now c.args.parts.now c.in-Arr.n c.in-Arr.elem (ap out-Ty c.in-Arr.is ∙ ty.outs-Arr c.in-Arr.n c.in-Arr.elem) c.if-parts-n.true

pub row_fits-returns-else-parts-n : goal.row_fits-returns-else-parts-n
row_fits-returns-else-parts-n g t c =
    arr-even c.args.on.now.program.now c.requires.settled (g.N.BlockNames.blocks c.args.on.now.names.now) c.args.on.now.capacity (scope_of c.args.within.now) c.args.ty.now c.args.parts.now c.in-Arr.n c.in-Arr.elem c.each_fits.result (ap out-Ty c.in-Arr.is ∙ ty.outs-Arr c.in-Arr.n c.in-Arr.elem) c.if-parts-n.false
    (subst (λ (e : Ty). IsTrue c.each_fits.result ↔ EachDoes c.args.on.now.program.now (g.N.BlockNames.blocks c.args.on.now.names.now) c.args.on.now.capacity (scope_of c.args.within.now) e c.args.parts.now) c.get.ensures c.each_fits.ensures)

pub row_fits-returns-then-not-is_length : goal.row_fits-returns-then-not-is_length
row_fits-returns-then-not-is_length g t c =
    tail-wrong c.args.on.now.program.now c.requires.settled (g.N.BlockNames.blocks c.args.on.now.names.now) c.args.on.now.capacity (scope_of c.args.within.now) c.args.ty.now c.args.parts.now c.in-Tail.len c.in-Tail.elem (ap out-Ty c.in-Tail.is ∙ ty.outs-Tail c.in-Tail.len c.in-Tail.elem)
    (refused c.is_length.result _ c.is_length.ensures c.if-not-is_length.true)

pub row_fits-returns-else-not-is_length : goal.row_fits-returns-else-not-is_length
row_fits-returns-else-not-is_length g t c =
    tail-right c.args.on.now.program.now c.requires.settled (g.N.BlockNames.blocks c.args.on.now.names.now) c.args.on.now.capacity (scope_of c.args.within.now) c.args.ty.now c.args.parts.now c.in-Tail.len c.in-Tail.elem c.each_fits-in-Tail.result (ap out-Ty c.in-Tail.is ∙ ty.outs-Tail c.in-Tail.len c.in-Tail.elem)
    (granted c.is_length.result _ c.is_length.ensures c.if-not-is_length.false)
    (subst (λ (e : Ty). IsTrue c.each_fits-in-Tail.result ↔ EachDoes c.args.on.now.program.now (g.N.BlockNames.blocks c.args.on.now.names.now) c.args.on.now.capacity (scope_of c.args.within.now) e c.args.parts.now) c.get-in-Tail.ensures c.each_fits-in-Tail.ensures)

-- ---- a value

pub fits-returns-in-Num : goal.fits-returns-in-Num
fits-returns-in-Num g t c =
    let same : c.number_fits.result ≡ has_room_in c.args.ty.now c.in-Num.n = search rules in
    by-layer c.args.on.now.program.now c.requires.settled (g.N.BlockNames.blocks c.args.on.now.names.now) c.args.on.now.capacity (scope_of c.args.within.now) c.number_fits.result c.args.ty.now (tree_of c.args.value.now) (Num c.in-Num.n) (ap tree_of c.in-Num.is ∙ num-tree c.in-Num.n) (alike c.number_fits.result (has_room_in c.args.ty.now c.in-Num.n) same)

pub fits-returns-in-Null : goal.fits-returns-in-Null
fits-returns-in-Null g t c = by-layer c.args.on.now.program.now c.requires.settled (g.N.BlockNames.blocks c.args.on.now.names.now) c.args.on.now.capacity (scope_of c.args.within.now) c.is_pointer.result c.args.ty.now (tree_of c.args.value.now) Null (ap tree_of c.in-Null.is ∙ null-tree) (alike c.is_pointer.result _ c.is_pointer.ensures)

pub fits-returns-in-To : goal.fits-returns-in-To
fits-returns-in-To g t c = by-layer c.args.on.now.program.now c.requires.settled (g.N.BlockNames.blocks c.args.on.now.names.now) c.args.on.now.capacity (scope_of c.args.within.now) c.may_name_within.result c.args.ty.now (tree_of c.args.value.now) (To c.in-To.addr) (ap tree_of c.in-To.is ∙ to-tree c.in-To.addr) c.may_name_within.ensures

pub fits-returns-in-Raw : goal.fits-returns-in-Raw
fits-returns-in-Raw g t c =
    by-layer c.args.on.now.program.now c.requires.settled (g.N.BlockNames.blocks c.args.on.now.names.now) c.args.on.now.capacity (scope_of c.args.within.now) c.opaque_fits.result c.args.ty.now (tree_of c.args.value.now) (Raw c.as_slice.result.now) (ap tree_of c.in-Raw.is ∙ raw-tree c.in-Raw.bytes ∙ ap Raw (sym c.as_slice.ensures.bytes)) c.opaque_fits.ensures

pub fits-returns-in-Rec : goal.fits-returns-in-Rec
fits-returns-in-Rec g t c =
    let e = ap tree_of c.in-Rec.is ∙ rec-tree c.in-Rec.parts ∙ ap (λ (vs : List Value). Rec (trees (map tree_of vs))) (sym c.as_slice-in-Rec.ensures.value) in
    by-layer c.args.on.now.program.now c.requires.settled (g.N.BlockNames.blocks c.args.on.now.names.now) c.args.on.now.capacity (scope_of c.args.within.now) c.rec_fits.result c.args.ty.now (tree_of c.args.value.now) (Rec (trees (map tree_of c.as_slice-in-Rec.result.now))) e
    (subst (λ (w : Tree). IsTrue c.rec_fits.result ↔ RecFits c.args.on.now.program.now (g.N.BlockNames.blocks c.args.on.now.names.now) c.args.on.now.capacity (scope_of c.args.within.now) c.args.ty.now w (trees (map tree_of c.as_slice-in-Rec.result.now))) e c.rec_fits.ensures)

pub fits-returns-in-Alt : goal.fits-returns-in-Alt
fits-returns-in-Alt g t c =
    let e = ap tree_of c.in-Alt.is ∙ alt-tree c.in-Alt.member c.in-Alt.there ∙ ap (λ (v : Value). Alt c.in-Alt.member (tree_of v)) (sym c.get.ensures) in
    by-layer c.args.on.now.program.now c.requires.settled (g.N.BlockNames.blocks c.args.on.now.names.now) c.args.on.now.capacity (scope_of c.args.within.now) c.alt_fits.result c.args.ty.now (tree_of c.args.value.now) (Alt c.in-Alt.member (tree_of c.get.result.now)) e
    (subst (λ (w : Tree). IsTrue c.alt_fits.result ↔ AltFits c.args.on.now.program.now (g.N.BlockNames.blocks c.args.on.now.names.now) c.args.on.now.capacity (scope_of c.args.within.now) c.args.ty.now w c.in-Alt.member (tree_of c.get.result.now)) e c.alt_fits.ensures)

pub fits-returns-in-Row : goal.fits-returns-in-Row
fits-returns-in-Row g t c =
    by-layer c.args.on.now.program.now c.requires.settled (g.N.BlockNames.blocks c.args.on.now.names.now) c.args.on.now.capacity (scope_of c.args.within.now) c.row_fits.result c.args.ty.now (tree_of c.args.value.now) (Row (trees (map tree_of c.as_slice-in-Row.result.now)))
    (ap tree_of c.in-Row.is ∙ row-tree c.in-Row.parts ∙ ap (λ (vs : List Value). Row (trees (map tree_of vs))) (sym c.as_slice-in-Row.ensures.value)) c.row_fits.ensures
