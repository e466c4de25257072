use Rattle.std.proofs.Common.{◌≡◌, ℕ, List, map, refl, ap, sym, subst, ◌∙◌, Option, Some, Err, option_copied, arith}
use Rattle.std.proofs.lemmas.Result.{err_from_is_err_and}
use Rattle.gt_types.specs.declared.types.Ty.{Ty, out-Ty}
use Rattle.gt_types.specs.declared.types.Ty.TheVariants as ty
use Rattle.gt_types.specs.declared.program.Field.{Field}
use Rattle.gt_tree.specs.Trees.{Tree, Rec, Alt, Row}
use Rattle.gt_value.specs.declared.values.Value.{Value}
use Rattle.gt_value.specs.Values.{trees, tree_of}
use Rattle.gt_assign.specs.Pasts.{Whole, past_of}
use Rattle.gt_assign.specs.Turning.{made, layer_made, struct_made, row_made, tail_made, maybe_whole}
use Rattle.gt_assign.specs.Changes.{Decides, changed, or_null}
use Rattle.gt_fit.specs.Values.{maybe_tree}
use Rattle.gt_fit.proofs.Values.{rec-tree, row-tree, count-trees}
use Rattle.gt_assign.proofs.Depths.{made_at}
use Rattle.gt_assign.proofs.Nodes.{node-union, node-struct, member-same}
use Rattle.std.specs.Prelude.{option_map}
use Rattle.gt_assign.proofs.Decided.{parts-start, decided-stop}
use Rattle.gt_assign.proofs.PartFields.{fields_from, fields-uneven, field-next, field-none, fields-all}
use Rattle.gt_assign.proofs.PartElements.{elements_from, element-next, element-none, elements-all}
use Rattle.gt_assign.proofs.changing.+changing.Goals as goal

pub change-returns : goal.change-returns
change-returns t c = subst (Decides c.layer_change.result (tree_of c.args.value.now)) (sym (made_at c.args.on.now.program.now c.args.on.now.capacity c.args.depth (past_of c.args.around.now) c.args.ty.now (Whole (tree_of c.args.value.now)) (omega arith))) c.layer_change.ensures

pub layer_change-returns-in-Arr : goal.layer_change-returns-in-Arr
layer_change-returns-in-Arr t c =
    let make = made c.args.on.now.program.now c.args.on.now.capacity c.args.depth in
    subst (λ l. Decides c.row_change.result (tree_of c.args.value.now) (layer_made c.args.on.now.program.now c.args.on.now.capacity make (past_of c.args.around.now) l (Whole (tree_of c.args.value.now))))
    (sym (ap out-Ty c.in-Arr.is ∙ ty.outs-Arr c.in-Arr.n c.in-Arr.elem))
    (subst (λ (e : Ty). Decides c.row_change.result (tree_of c.args.value.now) (row_made make (past_of c.args.around.now) e (Whole (tree_of c.args.value.now)) c.in-Arr.n)) c.get.ensures c.row_change.ensures)

pub layer_change-returns-in-Tail : goal.layer_change-returns-in-Tail
layer_change-returns-in-Tail t c =
    let make = made c.args.on.now.program.now c.args.on.now.capacity c.args.depth in
    subst (λ l. Decides c.tail_change.result (tree_of c.args.value.now) (layer_made c.args.on.now.program.now c.args.on.now.capacity make (past_of c.args.around.now) l (Whole (tree_of c.args.value.now))))
    (sym (ap out-Ty c.in-Tail.is ∙ ty.outs-Tail c.in-Tail.len c.in-Tail.elem))
    (subst (λ (n : Option ℕ). Decides c.tail_change.result (tree_of c.args.value.now) (tail_made make (past_of c.args.around.now) c.in-Tail.elem (Whole (tree_of c.args.value.now)) n)) c.tail_length.ensures
    (subst (λ (e : Ty). Decides c.tail_change.result (tree_of c.args.value.now) (tail_made make (past_of c.args.around.now) e (Whole (tree_of c.args.value.now)) c.tail_length.result)) c.get-in-Tail.ensures c.tail_change.ensures))

pub node_change-returns-then-structure : goal.node_change-returns-then-structure
node_change-returns-then-structure t c =
    subst (Decides c.union_change.result (tree_of c.args.value.now))
    (node-union c.args.on.now.program.now (made c.args.on.now.program.now c.args.on.now.capacity c.args.depth) (past_of c.args.around.now) (past_of c.inside-inner.result) c.args.id c.args.desc.now (Whole (tree_of c.args.value.now))
    c.in-Some.structure.now refl (sym c.get.ensures.item ∙ ap option_copied c.in-Some.is) c.if-structure.true c.inside-inner.ensures)
    c.union_change.ensures

pub node_change-returns-else-structure : goal.node_change-returns-else-structure
node_change-returns-else-structure t c =
    let make = made c.args.on.now.program.now c.args.on.now.capacity c.args.depth in
    subst (Decides c.struct_change.result (tree_of c.args.value.now))
    (ap (λ (fs : List Field). struct_made make (past_of c.inside-inner.result) fs (Whole (tree_of c.args.value.now))) c.as_slice.ensures.items
    ∙ node-struct c.args.on.now.program.now make (past_of c.args.around.now) (past_of c.inside-inner.result) c.args.id c.args.desc.now (Whole (tree_of c.args.value.now))
    c.in-Some.structure.now refl (sym c.get.ensures.item ∙ ap option_copied c.in-Some.is) c.if-structure.false c.inside-inner.ensures)
    c.struct_change.ensures

pub struct_change-returns-in-Rec : goal.struct_change-returns-in-Rec
struct_change-returns-in-Rec t c =
    let make = made c.args.on.now.program.now c.args.on.now.capacity c.args.depth in
    subst (λ (x : Tree). Decides c.fields_change.result x (struct_made make (past_of c.args.inner.now) c.args.fields.now (Whole x))) (sym (ap tree_of c.in-Rec.is ∙ rec-tree c.in-Rec.parts))
    (subst (λ (vs : List Value). Decides c.fields_change.result (Rec (trees (map tree_of vs))) (struct_made make (past_of c.args.inner.now) c.args.fields.now (Whole (Rec (trees (map tree_of vs)))))) c.as_slice.ensures.value c.fields_change.ensures)

pub row_change-returns-in-Row : goal.row_change-returns-in-Row
row_change-returns-in-Row t c =
    let make = made c.args.on.now.program.now c.args.on.now.capacity c.args.depth in
    subst (λ (x : Tree). Decides c.elements_change.result x (row_made make (past_of c.args.around.now) c.args.ty.now (Whole x) c.args.n)) (sym (ap tree_of c.in-Row.is ∙ row-tree c.in-Row.parts))
    (subst (λ (vs : List Value). Decides c.elements_change.result (Row (trees (map tree_of vs))) (row_made make (past_of c.args.around.now) c.args.ty.now (Whole (Row (trees (map tree_of vs)))) c.args.n)) c.as_slice.ensures.value c.elements_change.ensures)

pub fields_change-returns-then-parts-fields : goal.fields_change-returns-then-parts-fields
fields_change-returns-then-parts-fields t c =
    let make = made c.args.on.now.program.now c.args.on.now.capacity c.args.depth in
    fields-uneven make (past_of c.args.inner.now) (λ (r : Field). r.ty) c.args.fields.now c.args.parts.now c.if-parts-fields.true

pub fields_change-loop-i-init : goal.fields_change-loop-i-init
fields_change-loop-i-init t c =
    let make = made c.args.on.now.program.now c.args.on.now.capacity c.args.depth in
    parts-start (fields_from make (past_of c.args.inner.now) (λ (r : Field). r.ty) c.args.fields.now c.args.parts.now) (trees (map tree_of c.args.parts.now)) c.new-all.result (c.new-all.ensures.len ∙ sym (count-trees c.args.parts.now)) c.new-all.ensures.kept c.new-all.ensures.changes

pub fields_change-loop-i-preserved : goal.fields_change-loop-i-preserved
fields_change-loop-i-preserved t c =
    let make = made c.args.on.now.program.now c.args.on.now.capacity c.args.depth in
    field-next make (past_of c.args.inner.now) (λ (r : Field). r.ty) c.args.fields.now c.args.parts.now c.loop-i.i c.index-fields-i.result c.index-parts-i.result c.loop-i.all c.if-parts-fields.false c.loop-i-test.true c.index-fields-i.is c.index-parts-i.is c.loop-i.invariant c.in_ok-change.field-0 c.push.new.self
    (subst (λ (r : Field). make (past_of c.args.inner.now) r.ty (Whole (tree_of c.index-parts-i.result)) ≡ Some (changed c.in_ok-change.field-0 (tree_of c.index-parts-i.result))) (sym c.index-fields-i.is) c.in_ok-change.ensures) c.in_ok-push.ensures

pub fields_change-returns : goal.fields_change-returns
fields_change-returns t c =
    let make = made c.args.on.now.program.now c.args.on.now.capacity c.args.depth in
    fields-all make (past_of c.args.inner.now) (λ (r : Field). r.ty) c.args.fields.now c.args.parts.now c.loop-i.i c.loop-i.all c.if-parts-fields.false c.loop-i-test.false c.loop-i.invariant ∙ ap Some (sym (c.finish.ensures.rec (trees (map tree_of c.args.parts.now)) (sym c.loop-i.invariant.len)))

pub fields_change-returns-in_err-change : goal.fields_change-returns-in_err-change
fields_change-returns-in_err-change t c =
    let make = made c.args.on.now.program.now c.args.on.now.capacity c.args.depth in
    let p = err_from_is_err_and c.from_residual.result c.from_residual.ensures.1 in
    let q = p.2 in
    let is : c.from_residual.result ≡ Err c.in_err-change.field-0.0 = cc in
    subst (λ r. Decides r (Rec (trees (map tree_of c.args.parts.now))) (struct_made make (past_of c.args.inner.now) c.args.fields.now (Whole (Rec (trees (map tree_of c.args.parts.now)))))) (sym is)
    (decided-stop c.in_err-change.field-0.0 (tree_of c.index-parts-i.result) (Rec (trees (map tree_of c.args.parts.now))) (make (past_of c.args.inner.now) c.index-fields-i.result.ty (Whole (tree_of c.index-parts-i.result))) (struct_made make (past_of c.args.inner.now) c.args.fields.now (Whole (Rec (trees (map tree_of c.args.parts.now)))))
    (subst (λ (r : Field). Decides (Err c.in_err-change.field-0.0) (tree_of c.index-parts-i.result) (make (past_of c.args.inner.now) r.ty (Whole (tree_of c.index-parts-i.result)))) (sym c.index-fields-i.is) c.in_err-change.ensures)
    (λ none. field-none make (past_of c.args.inner.now) (λ (r : Field). r.ty) c.args.fields.now c.args.parts.now c.loop-i.i c.index-fields-i.result c.index-parts-i.result c.loop-i.all c.if-parts-fields.false c.loop-i-test.true c.index-fields-i.is c.index-parts-i.is c.loop-i.invariant none))

pub elements_change-loop-i-init : goal.elements_change-loop-i-init
elements_change-loop-i-init t c =
    let make = made c.args.on.now.program.now c.args.on.now.capacity c.args.depth in
    parts-start (elements_from make (past_of c.args.around.now) c.args.ty.now c.args.parts.now c.args.n) (trees (map tree_of c.args.parts.now)) c.new-all.result (c.new-all.ensures.len ∙ sym (count-trees c.args.parts.now)) c.new-all.ensures.kept c.new-all.ensures.changes

pub elements_change-loop-i-preserved : goal.elements_change-loop-i-preserved
elements_change-loop-i-preserved t c =
    let make = made c.args.on.now.program.now c.args.on.now.capacity c.args.depth in
    element-next make (past_of c.args.around.now) c.args.ty.now c.args.parts.now c.args.n c.loop-i.i c.loop-i.all c.loop-i-test.true c.loop-i.invariant c.in_ok-element_change.field-0 c.push.new.self
    (subst (λ (o : Option Tree). make (past_of c.args.around.now) c.args.ty.now (maybe_whole o) ≡ Some (changed c.in_ok-element_change.field-0 (or_null o))) c.item.ensures c.in_ok-element_change.ensures) c.in_ok-push.ensures

pub elements_change-returns : goal.elements_change-returns
elements_change-returns t c =
    let make = made c.args.on.now.program.now c.args.on.now.capacity c.args.depth in
    elements-all make (past_of c.args.around.now) c.args.ty.now c.args.parts.now c.args.n c.loop-i.i c.loop-i.all c.loop-i-test.false c.loop-i.invariant ∙ ap Some (sym (c.finish.ensures.row (trees (map tree_of c.args.parts.now)) (sym c.loop-i.invariant.len)))

pub elements_change-returns-in_err-element_change : goal.elements_change-returns-in_err-element_change
elements_change-returns-in_err-element_change t c =
    let make = made c.args.on.now.program.now c.args.on.now.capacity c.args.depth in
    let p = err_from_is_err_and c.from_residual.result c.from_residual.ensures.1 in
    let q = p.2 in
    let is : c.from_residual.result ≡ Err c.in_err-element_change.field-0.0 = cc in
    subst (λ r. Decides r (Row (trees (map tree_of c.args.parts.now))) (row_made make (past_of c.args.around.now) c.args.ty.now (Whole (Row (trees (map tree_of c.args.parts.now)))) c.args.n)) (sym is)
    (decided-stop c.in_err-element_change.field-0.0 (or_null (maybe_tree (option_copied c.item.result))) (Row (trees (map tree_of c.args.parts.now))) (make (past_of c.args.around.now) c.args.ty.now (maybe_whole (maybe_tree (option_copied c.item.result)))) (row_made make (past_of c.args.around.now) c.args.ty.now (Whole (Row (trees (map tree_of c.args.parts.now)))) c.args.n)
    c.in_err-element_change.ensures
    (λ none. element-none make (past_of c.args.around.now) c.args.ty.now c.args.parts.now c.args.n c.loop-i.i c.loop-i.all c.loop-i-test.true c.loop-i.invariant (ap (λ (o : Option Tree). make (past_of c.args.around.now) c.args.ty.now (maybe_whole o)) (sym c.item.ensures) ∙ none)))

pub node_change-union_change-requires : goal.node_change-union_change-requires
node_change-union_change-requires t c =
    let has = sym c.get.ensures.item ∙ ap option_copied c.in-Some.is in
    (omega arith, (c.requires.settled, (has, c.if-structure.true)))

pub member_change-returns : goal.member_change-returns
member_change-returns t c =
    let make = made c.args.on.now.program.now c.args.on.now.capacity c.args.depth in
    member-same c.args.on.now.program.now make (past_of c.args.inner.now) c.args.structure.now c.args.place c.in-Some.field.now (tree_of c.args.there.now) (sym c.get.ensures.item ∙ ap option_copied c.in-Some.is)
    ∙ ap (option_map (Alt (Some c.args.place))) c.in_ok-change.ensures ∙ ap Some (sym (c.in_ok-inside.ensures (tree_of c.args.there.now)))
