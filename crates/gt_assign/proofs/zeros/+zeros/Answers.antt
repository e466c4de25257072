use Rattle.std.proofs.Common.{ℕ, ◌+◌, List, refl, ap, sym, subst, ◌∙◌, Option, Some, arith, option_copied}
use Rattle.std.specs.Prelude.{option_map}
use Rattle.gt_tree.specs.Trees.{Trees, Row}
use Rattle.gt_value.specs.declared.values.Value.{Value}
use Rattle.gt_types.specs.declared.types.Ty.{Ty, out-Ty}
use Rattle.gt_types.specs.declared.types.Ty.TheVariants as ty
use Rattle.gt_types.specs.declared.program.Field.{Field}
use Rattle.gt_assign.specs.Pasts.{Nothing, past_of}
use Rattle.gt_assign.specs.Turning.{Gives, made, layer_made, struct_made, row_made, tail_made}
use Rattle.gt_fit.proofs.Values.{row-tree}
use Rattle.gt_assign.proofs.Depths.{made_at}
use Rattle.gt_assign.proofs.Nodes.{node-union, node-struct}
use Rattle.gt_assign.proofs.Rows.{FieldsSoFar, fields-more, fields-end, ElementsSoFar, elements-more, elements-end}
use Rattle.gt_assign.proofs.zeros.+zeros.Goals as goal

pub zero_fields-loop-field-preserved : goal.zero_fields-loop-field-preserved
zero_fields-loop-field-preserved t c =
    let make = made c.args.on.now.program.now c.args.on.now.capacity c.args.depth in
    subst (λ (vs : List Value). FieldsSoFar make (past_of c.args.inner.now) Nothing (λ (f : Field). f.ty) c.args.fields.now (c.loop-field.field-index + 1) vs) (sym {A = List Value} c.in_ok-push.ensures.items)
    (fields-more make (past_of c.args.inner.now) Nothing (λ (f : Field). f.ty) c.args.fields.now c.loop-field.field-index c.field-item.result c.loop-field.parts.items c.loop-field-test.true c.field-item.is c.loop-field.invariant
    Nothing c.in_ok-zero.field-0 refl c.in_ok-zero.ensures)

pub zero_row-loop-i-preserved : goal.zero_row-loop-i-preserved
zero_row-loop-i-preserved t c =
    let make = made c.args.on.now.program.now c.args.on.now.capacity c.args.depth in
    subst (λ (vs : List Value). ElementsSoFar make (past_of c.args.around.now) Nothing c.args.ty.now c.args.n (c.loop-i.i + 1) vs) (sym {A = List Value} c.in_ok-push.ensures.items)
    (elements-more make (past_of c.args.around.now) Nothing c.args.ty.now c.args.n c.loop-i.i c.loop-i.parts.items c.loop-i-test.true c.loop-i.invariant
    Nothing c.in_ok-zero.field-0 refl c.in_ok-zero.ensures)

pub zero_fields-returns : goal.zero_fields-returns
zero_fields-returns t c =
    let make = made c.args.on.now.program.now c.args.on.now.capacity c.args.depth in
    fields-end make (past_of c.args.inner.now) Nothing (λ (f : Field). f.ty) c.args.fields.now c.loop-field.field-index c.loop-field.parts.items c.loop-field-test.false c.loop-field.invariant

pub zero_row-returns : goal.zero_row-returns
zero_row-returns t c =
    let make = made c.args.on.now.program.now c.args.on.now.capacity c.args.depth in
    ap (λ (o : Option Trees). option_map Row o) (elements-end make (past_of c.args.around.now) Nothing c.args.ty.now c.args.n c.loop-i.i c.loop-i.parts.items c.loop-i-test.false c.loop-i.invariant)
    ∙ ap Some (sym (row-tree c.loop-i.parts))

pub zero-returns : goal.zero-returns
zero-returns t c = subst (Gives c.zero_layer.result) (sym (made_at c.args.on.now.program.now c.args.on.now.capacity c.args.depth (past_of c.args.around.now) c.args.ty.now Nothing (omega arith))) c.zero_layer.ensures

pub zero_node-returns-then-structure : goal.zero_node-returns-then-structure
zero_node-returns-then-structure t c =
    subst (Gives c.zero_union.result)
    (node-union c.args.on.now.program.now (made c.args.on.now.program.now c.args.on.now.capacity c.args.depth) (past_of c.args.around.now) (past_of c.inside-inner.result) c.args.id c.args.desc.now Nothing
    c.in-Some.structure.now refl (sym c.get.ensures.item ∙ ap option_copied c.in-Some.is) c.if-structure.true c.inside-inner.ensures)
    c.zero_union.ensures

pub zero_node-returns-else-structure : goal.zero_node-returns-else-structure
zero_node-returns-else-structure t c =
    let make = made c.args.on.now.program.now c.args.on.now.capacity c.args.depth in
    subst (Gives c.zero_struct.result)
    (ap (λ (fs : List Field). struct_made make (past_of c.inside-inner.result) fs Nothing) c.as_slice.ensures.items
    ∙ node-struct c.args.on.now.program.now make (past_of c.args.around.now) (past_of c.inside-inner.result) c.args.id c.args.desc.now Nothing
    c.in-Some.structure.now refl (sym c.get.ensures.item ∙ ap option_copied c.in-Some.is) c.if-structure.false c.inside-inner.ensures)
    c.zero_struct.ensures

pub zero_layer-returns-in-Arr : goal.zero_layer-returns-in-Arr
zero_layer-returns-in-Arr t c =
    subst (λ l. Gives c.zero_row.result (layer_made c.args.on.now.program.now c.args.on.now.capacity (made c.args.on.now.program.now c.args.on.now.capacity c.args.depth) (past_of c.args.around.now) l Nothing))
    (sym (ap out-Ty c.in-Arr.is ∙ ty.outs-Arr c.in-Arr.n c.in-Arr.elem))
    (subst (λ (e : Ty). Gives c.zero_row.result (row_made (made c.args.on.now.program.now c.args.on.now.capacity c.args.depth) (past_of c.args.around.now) e Nothing c.in-Arr.n)) c.get.ensures c.zero_row.ensures)

pub zero_layer-returns-in-Tail : goal.zero_layer-returns-in-Tail
zero_layer-returns-in-Tail t c =
    subst (λ l. Gives c.zero_tail.result (layer_made c.args.on.now.program.now c.args.on.now.capacity (made c.args.on.now.program.now c.args.on.now.capacity c.args.depth) (past_of c.args.around.now) l Nothing))
    (sym (ap out-Ty c.in-Tail.is ∙ ty.outs-Tail c.in-Tail.len c.in-Tail.elem))
    (subst (λ (n : Option ℕ). Gives c.zero_tail.result (tail_made (made c.args.on.now.program.now c.args.on.now.capacity c.args.depth) (past_of c.args.around.now) c.in-Tail.elem Nothing n)) c.tail_length.ensures
    (subst (λ (e : Ty). Gives c.zero_tail.result (tail_made (made c.args.on.now.program.now c.args.on.now.capacity c.args.depth) (past_of c.args.around.now) e Nothing c.tail_length.result)) c.get-in-Tail.ensures c.zero_tail.ensures))

pub zero_node-zero_union-requires : goal.zero_node-zero_union-requires
zero_node-zero_union-requires t c =
    let has = sym c.get.ensures.item ∙ ap option_copied c.in-Some.is in
    (omega arith, (c.requires.settled, (has, c.if-structure.true)))
