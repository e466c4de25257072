use Rattle.std.proofs.Common.{◌≡◌, ◌∙◌, ◌+◌, ◌<◌, ◌≤◌, ap, sym, subst, refl, arith, Some, None, Err, inl, inr, IsTrue, get_or, length, map, take}
use Rattle.std.specs.Prelude.{pos}
use Rattle.std.proofs.lemmas.Result.{err_from_is_err_and}
use Rattle.std.proofs.lemmas.List.Elements.{All-get_or}
use Rattle.gt_types.specs.declared.types.Ty.TheVariants as ty
use Rattle.gt_types.specs.declared.types.Ty.TheVariants.{outs-Arr, outs-Tail}
use Rattle.gt_types.specs.declared.types.Ty.{out-Ty}
use Rattle.gt_types.specs.declared.types.Ty.TheOpen as part
use Rattle.gt_types.specs.Shapes.{dimensions, is_pointer}
use Rattle.gt_layout.specs.Progress.{HoldsWithinDepth}
use Rattle.gt_layout.proofs.Laying.{read_at}
use Rattle.gt_layout.proofs.Capacities.{node_within, shallow_fields}
use Rattle.gt_tree.specs.Trees.{Num, Rec, Alt}
use Rattle.gt_tree.specs.Fits.{types_of}
use Rattle.gt_tree.proofs.PathParts.{get-map}
use Rattle.gt_value.specs.declared.values.ValueFail.TheVariants.{Shape}
use Rattle.gt_value.specs.Values.{tree_of, trees}
use Rattle.gt_value.specs.Noughts.{IsNought, AreNoughts, number, bits, null, struct, member, common, nothing, array, tail}
use Rattle.gt_value.proofs.NoughtReads.{nought-at, nought-struct}
use Rattle.gt_value.proofs.TreesOf.{tree-num, tree-null, tree-rec, tree-row, tree-alt}
use Rattle.gt_value.proofs.ZeroSteps.{elements-push, elements-none, elements-first, noughts-none, noughts-push, map-more, fields-flat, active-within, nought-member, nought-common, opaque-raw, union-at, union-none, common-within}
use Rattle.gt_value.proofs.zeros.+zeros.Goals as goal
use Rattle.gt_value.proofs.zeros.+zeros.Goals.{zero_union-in-Some-common_structure+in_ok-value-in-Some-common_structure, zero_union-in-None}

pub zero_elements-loop-init : goal.zero_elements-loop-init
zero_elements-loop-init t c = elements-none c.args.elem.now c.new-parts.result.items c.new-parts.ensures.items

pub zero_elements-returns-in_err-part-clause-shape : goal.zero_elements-returns-in_err-part-clause-shape
zero_elements-returns-in_err-part-clause-shape t c fail values all =
    let p = err_from_is_err_and c.from_residual.result c.from_residual.ensures.1 in
    let q = p.2 in
    let is : c.in_err-part.field-0.0 ≡ Shape = cc in
    let found = elements-first c.args.n c.args.elem.now values (omega arith) all in
    c.in_err-part.ensures.shape (ap Err is) found.0 found.1

pub zero_elements-loop-preserved : goal.zero_elements-loop-preserved
zero_elements-loop-preserved t c =
    elements-push c.loop.counter c.args.elem.now c.loop.parts.items c.push.new.self.items c.in_ok-part.part c.loop.invariant c.in_ok-part.ensures.zero c.in_ok-push.ensures.items

pub zero_fields-loop-field-init : goal.zero_fields-loop-field-init
zero_fields-loop-field-init t c = noughts-none c.new-parts.result.items c.new-parts.ensures.items

pub zero_fields-returns-in_err-part-clause-shape : goal.zero_fields-returns-in_err-part-clause-shape
zero_fields-returns-in_err-part-clause-shape t c fail values all =
    let p = err_from_is_err_and c.from_residual.result c.from_residual.ensures.1 in
    let q = p.2 in
    let is : c.in_err-part.field-0.0 ≡ Shape = cc in
    let got = read_at c.args.fields.now c.args.fields.now c.loop-field.field-index c.field-item.result refl c.loop-field-test.true c.field-item.is in
    let found = nought-at all c.loop-field.field-index c.field-item.result.ty (get-map (λ f. f.ty) c.args.fields.now c.loop-field.field-index c.field-item.result got) in
    c.in_err-part.ensures.shape (ap Err is) found.0 found.2

pub zero_fields-loop-field-preserved : goal.zero_fields-loop-field-preserved
zero_fields-loop-field-preserved t c =
    noughts-push (types_of (take c.loop-field.field-index c.args.fields.now)) (types_of (take (c.loop-field.field-index + 1) c.args.fields.now)) c.field-item.result.ty c.loop-field.parts.items c.push.new.self.items
    c.in_ok-part.part c.loop-field.invariant c.in_ok-part.ensures.zero c.in_ok-push.ensures.items
    (map-more (λ f. f.ty) c.args.fields.now c.loop-field.field-index c.field-item.result c.loop-field-test.true c.field-item.is)

pub zero_of-overflow_sub-depth : goal.zero_of-overflow_sub-depth
zero_of-overflow_sub-depth t c = (node_within c.args.program.now c.args.ty.now c.in-Node.id c.in-Node.desc c.args.depth c.requires.shallow c.in-Node.is).1

pub zero_of-zero_structure-requires : goal.zero_of-zero_structure-requires
zero_of-zero_structure-requires t c =
    let inner = node_within c.args.program.now c.args.ty.now c.in-Node.id c.in-Node.desc c.args.depth c.requires.shallow c.in-Node.is in
    (omega (arith, inner.1), (c.requires.settled, (c.requires.laid, (inner.0, inner.2))))

pub zero_of-returns-in_ok-bytes-in-Opaque-clause-zero : goal.zero_of-returns-in_ok-bytes-in-Opaque-clause-zero
zero_of-returns-in_ok-bytes-in-Opaque-clause-zero t c =
    let e = c.in_ok-bytes-in-Opaque.ensures.items_if_clones_equal (λ y h. (cc)) in
    opaque-raw c.args.program.now c.args.capacity c.args.ty.now c.in-Opaque.size c.in-Opaque.align c.from_vec.result c.in-Opaque.is (c.from_vec.ensures.bytes ∙ e)

pub zero_of-returns-in_ok-parts-in-Arr-clause-zero : goal.zero_of-returns-in_ok-parts-in-Arr-clause-zero
zero_of-returns-in_ok-parts-in-Arr-clause-zero t c =
    let is : out-Ty c.args.ty.now ≡ part.Arr c.in-Arr.n c.get.result.now = ap out-Ty c.in-Arr.is ∙ outs-Arr c.in-Arr.n c.in-Arr.elem ∙ ap (part.Arr c.in-Arr.n) (sym c.get.ensures) in
    subst (IsNought c.args.program.now c.args.capacity c.args.ty.now) (sym (tree-row c.in_ok-parts-in-Arr.parts)) (array is c.in_ok-parts-in-Arr.ensures.zero)

pub zero_of-returns-in_ok-parts-in-Tail-clause-zero : goal.zero_of-returns-in_ok-parts-in-Tail-clause-zero
zero_of-returns-in_ok-parts-in-Tail-clause-zero t c =
    let found = c.in-Some.ensures.length in
    let is : out-Ty c.args.ty.now ≡ part.Tail c.in-Tail.len c.get-in-Tail.result.now = ap out-Ty c.in-Tail.is ∙ outs-Tail c.in-Tail.len c.in-Tail.elem ∙ ap (part.Tail c.in-Tail.len) (sym c.get-in-Tail.ensures) in
    subst (IsNought c.args.program.now c.args.capacity c.args.ty.now) (sym (tree-row c.in_ok-parts-in-Tail.parts)) (tail is found.0 found.1 c.in_ok-parts-in-Tail.ensures.zero)

pub zero_of-returns-in-Str-clause-zero : goal.zero_of-returns-in-Str-clause-zero
zero_of-returns-in-Str-clause-zero t c =
    let p : IsTrue (is_pointer c.args.ty.now) = elim c.in-Str.is [ inl e ↦ ap is_pointer e.1 | inr e ↦ ap is_pointer e.3 ] in
    subst (IsNought c.args.program.now c.args.capacity c.args.ty.now) (sym tree-null) (null p)

pub zero_of-returns-in-Num-clause-zero : goal.zero_of-returns-in-Num-clause-zero
zero_of-returns-in-Num-clause-zero t c =
    let h : IsNought c.args.program.now c.args.capacity c.args.ty.now (Num (pos 0)) =
    elim c.in-Num.is [
      | inl e ↦ subst (λ y. IsNought c.args.program.now c.args.capacity y (Num (pos 0))) (sym e.1) number
      | inr e ↦ subst (λ y. IsNought c.args.program.now c.args.capacity y (Num (pos 0))) (sym e.2) bits
    ] in
    subst (IsNought c.args.program.now c.args.capacity c.args.ty.now) (sym (tree-num (pos 0))) h

pub zero_structure-zero_fields-requires : goal.zero_structure-zero_fields-requires
zero_structure-zero_fields-requires t c =
    let there = read_at c.as_slice.result.now c.args.program.now.structures c.args.id.0 c.index-as_slice-id.result c.as_slice.ensures.items c.requires.there c.index-as_slice-id.is in (
      omega arith,
      (
        c.requires.settled,
        (
          c.requires.laid,
          (
            shallow_fields c.args.program.now c.args.id.0 c.args.depth c.index-as_slice-id.result c.as_slice-2.result.now c.requires.settled there c.requires.shallow c.as_slice-2.ensures.items,
            fields-flat c.args.program.now c.args.id c.index-as_slice-id.result c.as_slice-2.result.now c.requires.settled there c.as_slice-2.ensures.items,
          ),
        ),
      ),
    )

pub zero_structure-returns-in_err-parts-clause-shape : goal.zero_structure-returns-in_err-parts-clause-shape
zero_structure-returns-in_err-parts-clause-shape t c fail tree h =
    let p = err_from_is_err_and c.from_residual.result c.from_residual.ensures.1 in
    let q = p.2 in
    let is : c.in_err-parts.field-0.0 ≡ Shape = cc in
    let there = read_at c.as_slice.result.now c.args.program.now.structures c.args.id.0 c.index-as_slice-id.result c.as_slice.ensures.items c.requires.there c.index-as_slice-id.is in
    let inside = nought-struct c.args.id c.args.desc.now c.index-as_slice-id.result tree there c.if-structure.false h in
    c.in_err-parts.ensures.shape (ap Err is) inside.0 (subst (λ fs. AreNoughts c.args.program.now c.args.capacity (types_of fs) inside.0) (sym c.as_slice-2.ensures.items) inside.2)

pub zero_structure-returns-clause-zero : goal.zero_structure-returns-clause-zero
zero_structure-returns-clause-zero t c =
    let there = read_at c.as_slice.result.now c.args.program.now.structures c.args.id.0 c.index-as_slice-id.result c.as_slice.ensures.items c.requires.there c.index-as_slice-id.is in
    subst (IsNought c.args.program.now c.args.capacity (ty.Node c.args.id c.args.desc.now)) (sym (tree-rec c.in_ok-parts.parts))
    (struct there c.if-structure.false
    (subst (λ fs. AreNoughts c.args.program.now c.args.capacity (types_of fs) (trees (map tree_of c.in_ok-parts.parts.items))) c.as_slice-2.ensures.items c.in_ok-parts.ensures.zero))

pub zero_union-bounds-fields-place : goal.zero_union-bounds-fields-place
zero_union-bounds-fields-place t c =
    let within = active-within c.zero_desc-worth.result c.args.structure.now.fields c.in-Some.place (sym c.in-Some.ensures) in
    omega (arith, within, ap length c.as_slice-fields.ensures.items)

pub zero_union-zero_of-requires : goal.zero_union-zero_of-requires
zero_union-zero_of-requires t c =
    let within = active-within c.zero_desc-worth.result c.args.structure.now.fields c.in-Some.place (sym c.in-Some.ensures) in
    let lt : c.in-Some.place < length c.as_slice-fields.result.now = omega (arith, within, ap length c.as_slice-fields.ensures.items) in
    let flat = All-get_or (λ f. dimensions f.ty ≤ 4) c.as_slice-fields.result.now c.in-Some.place c.index-fields-place.result lt
    (fields-flat c.args.program.now c.args.id c.args.structure.now c.as_slice-fields.result.now c.requires.settled c.requires.has c.as_slice-fields.ensures.items) in
    let shallow = All-get_or (λ f. HoldsWithinDepth c.args.program.now f.ty c.args.depth) c.as_slice-fields.result.now c.in-Some.place c.index-fields-place.result lt
    (shallow_fields c.args.program.now c.args.id.0 c.args.depth c.args.structure.now c.as_slice-fields.result.now c.requires.settled c.requires.has c.requires.shallow c.as_slice-fields.ensures.items) in
    (omega (arith, flat), (c.requires.settled, (c.requires.laid, (shallow, flat))))

pub zero_union-returns-in_err-value-clause-shape : goal.zero_union-returns-in_err-value-clause-shape
zero_union-returns-in_err-value-clause-shape t c fail tree h =
    let p = err_from_is_err_and c.from_residual.result c.from_residual.ensures.1 in
    let q = p.2 in
    let is : c.in_err-value.field-0.0 ≡ Shape = cc in
    let at = union-at c.args.desc.now c.args.structure.now c.as_slice-fields.result.now c.zero_desc-worth.result c.in-Some.place c.index-fields-place.result c.as_slice-fields.ensures.items c.zero_desc-worth.ensures (sym c.in-Some.ensures) in
    let found = nought-member c.args.id c.args.desc.now c.args.structure.now c.in-Some.place (get_or c.as_slice-fields.result.now c.in-Some.place c.index-fields-place.result) tree c.requires.has c.requires.union at.0 at.1 h in
    c.in_err-value.ensures.shape (ap Err is) found.0 found.1

pub zero_union-returns-in-Some-clause-zero : goal.zero_union-returns-in-Some-clause-zero
zero_union-returns-in-Some-clause-zero t c =
    let at = union-at c.args.desc.now c.args.structure.now c.as_slice-fields.result.now c.zero_desc-worth.result c.in-Some.place c.index-fields-place.result c.as_slice-fields.ensures.items c.zero_desc-worth.ensures (sym c.in-Some.ensures) in
    subst (IsNought c.args.program.now c.args.capacity (ty.Node c.args.id c.args.desc.now)) (sym (tree-alt (Some c.in-Some.place) c.in_ok-new.field-0))
    (member c.requires.has c.requires.union at.0 at.1
    (subst (λ v. IsNought c.args.program.now c.args.capacity (get_or c.as_slice-fields.result.now c.in-Some.place c.index-fields-place.result).ty (tree_of v)) (sym c.in_ok-new.ensures) c.in_ok-value.ensures.zero))

pub zero_union-overflow_sub-depth : goal.zero_union-overflow_sub-depth
zero_union-overflow_sub-depth t c =
    (common-within c.args.program.now c.requires.settled c.args.id c.args.structure.now c.in-Some-common_structure.common c.args.depth c.requires.has c.requires.shallow c.in-Some-common_structure.ensures).1

pub zero_union-zero_structure-requires : goal.zero_union-zero_structure-requires
zero_union-zero_structure-requires t c =
    let inner = common-within c.args.program.now c.requires.settled c.args.id c.args.structure.now c.in-Some-common_structure.common c.args.depth c.requires.has c.requires.shallow c.in-Some-common_structure.ensures in
    (omega (arith, inner.1), (c.requires.settled, (c.requires.laid, (inner.0, inner.2))))

pub zero_union-returns-in_err-value-in-Some-common_structure-clause-shape : goal.zero_union-returns-in_err-value-in-Some-common_structure-clause-shape
zero_union-returns-in_err-value-in-Some-common_structure-clause-shape t c fail tree h =
    let p = err_from_is_err_and c.from_residual-in_err-value-in-Some-common_structure.result c.from_residual-in_err-value-in-Some-common_structure.ensures.1 in
    let q = p.2 in
    let is : (c.in_err-value-in-Some-common_structure).field-0.0 ≡ Shape = cc in
    let none = union-none c.args.desc.now c.args.structure.now c.zero_desc-worth.result c.active_member.result c.zero_desc-worth.ensures c.active_member.ensures c.in_default.not-Some in
    let found = nought-common c.args.id c.in-Some-common_structure.common c.args.desc.now c.args.structure.now tree c.requires.settled c.requires.has c.requires.union none c.in-Some-common_structure.ensures h in
    c.in_err-value-in-Some-common_structure.ensures.shape (ap Err is) found.0 found.1

pub zero_union-returns-clause-zero : goal.zero_union-returns-clause-zero
zero_union-returns-clause-zero t c =
    let none = union-none c.args.desc.now c.args.structure.now c.zero_desc-worth.result c.active_member.result c.zero_desc-worth.ensures c.active_member.ensures c.in_default.not-Some in
    subst (IsNought c.args.program.now c.args.capacity (ty.Node c.args.id c.args.desc.now)) (sym (tree-alt None c.in_ok-new-2.field-0))
    (elim c.match-common_structure.branch [
      | zero_union-in-Some-common_structure+in_ok-value-in-Some-common_structure w ↦
          subst (λ v. IsNought c.args.program.now c.args.capacity (ty.Node c.args.id c.args.desc.now) (Alt None (tree_of v))) (sym (c.in_ok-new-2.ensures ∙ w.value-is))
          (common c.requires.has c.requires.union none w.in-Some-common_structure.ensures w.in_ok-value-in-Some-common_structure.ensures.zero)
      | zero_union-in-None w ↦
          subst (λ v. IsNought c.args.program.now c.args.capacity (ty.Node c.args.id c.args.desc.now) (Alt None (tree_of v))) (sym (c.in_ok-new-2.ensures ∙ w.value-is))
          (subst (λ v. IsNought c.args.program.now c.args.capacity (ty.Node c.args.id c.args.desc.now) (Alt None v)) (sym (tree-rec w.new-in-None.result ∙ ap (λ xs. Rec (trees (map tree_of xs))) w.new-in-None.ensures.items))
          (nothing c.requires.has c.requires.union none w.in-None.ensures))
    ])
