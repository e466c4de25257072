use Rattle.std.proofs.Common.{◌≡◌, ◌++◌, ◌∙◌, List, map, None, ap, ap₂, sym, rules}
use Rattle.std.proofs.lemmas.Result.{on_ok_weaker}
use Rattle.std.specs.Prelude.{OnOk}
use Rattle.gt_types.specs.declared.types.Ty.TheVariants as ty
use Rattle.gt_tree.specs.Trees.{Raw, Rec, Alt, Row}
use Rattle.gt_value.specs.declared.values.Value.{Value, the_lemmas}
use Rattle.gt_value.specs.Values.{trees, tree_of}
use Rattle.gt_show.specs.Shown.{number_text}
use Rattle.gt_show.proofs.TreesOf.{tree-num, tree-null, tree-to, tree-raw, tree-rec, tree-alt, tree-row, rec_if_tree}
use Rattle.gt_show.proofs.FitParts.{field-fits, element-fits}
use Rattle.gt_show.proofs.Adding.{no_field, field_more, fields_end, no_element, element_more, elements_end, value_at, field_there, as_many_parts}
use Rattle.gt_show.proofs.Showing.{number_added, null_added, target_there, target_added, opaque_added, struct_there, struct_parts, struct_added, union_there, member_parts, member_added, common_node, common_parts, common_added, common_is_struct, common_shown, nothing_shown, member_shown, row_there, row_parts, row_added}
use Rattle.gt_show.proofs.values.+show.Goals as goal

-- ---- a struct

pub push_struct-loop-place-init : goal.push_struct-loop-place-init
push_struct-loop-place-init g t c = no_field c.args.s.now.fields c.args.parts.now _ _ c.in_ok-push.ensures.added

pub push_struct-unreachable-requires : goal.push_struct-unreachable-requires
push_struct-unreachable-requires g t c = field_there c.args.s.now.fields c.args.parts.now c.loop-place.place c.requires.fit c.loop-place-test.true c.in_default.ensures.item

pub push_struct-push_value-requires : goal.push_struct-push_value-requires
push_struct-push_value-requires g t c κs within = (
  search (rules, the_lemmas),
  (
    within,
    (
      c.requires.settled,
      field-fits c.args.s.now.fields (map tree_of c.args.parts.now) c.loop-place.place c.in-Some.f.now (tree_of c.index-parts-place.result) c.requires.fit (sym c.in-Some.ensures.item)
          (value_at c.args.parts.now c.loop-place.place c.index-parts-place.result c.loop-place-test.true c.index-parts-place.is),
    ),
  ),
)

pub push_struct-loop-place-preserved : goal.push_struct-loop-place-preserved
push_struct-loop-place-preserved g t c =
    field_more c.args.s.now.fields c.args.parts.now c.loop-place.place c.in-Some.f.now c.index-parts-place.result _ c.loop-place.text c.push_label.new.text c.push_value.new.text (sym c.in-Some.ensures.item)
    c.loop-place-test.true c.index-parts-place.is c.in_ok-push_label.ensures.added c.in_ok-push_value.ensures.added c.loop-place.invariant

pub push_struct-returns : goal.push_struct-returns
push_struct-returns g t c = record {
  added =
      on_ok_weaker c.push-2.result
      (λ is.
      fields_end c.args.s.now c.args.parts.now c.loop-place.place c.args.text.now c.loop-place.text c.push-2.new.self (as_many_parts c.args.s.now.fields c.args.parts.now c.requires.fit)
      c.loop-place-test.false is c.loop-place.invariant)
      c.push-2.ensures.added;
}

-- ---- a union

pub push_member-returns : goal.push_member-returns
push_member-returns g t c = record {
  added =
      on_ok_weaker c.push_value.result
      (member_shown _ _ c.args.s.now c.args.place c.in-Some.f.now (tree_of c.args.value.now) c.args.text.now c.push_name.new.text c.push.new.self c.push_value.new.text (sym c.in-Some.ensures.item)
      c.in_ok-push_name.ensures.added c.in_ok-push.ensures.added)
      c.push_value.ensures.added;
}

pub push_common-returns-in_default : goal.push_common-returns-in_default
push_common-returns-in_default g t c = record {
  added = nothing_shown _ _ c.args.s.now (tree_of c.args.value.now) c.args.text.now c.append.new.self (c.in_default.ensures.common c.args.context.now.program.now c.args.s.now c.args.context.now.united c.requires.settled c.requires.there c.requires.union) c.requires.fits c.in_ok-append.ensures.added;
}

pub push_common-unreachable-requires : goal.push_common-unreachable-requires
push_common-unreachable-requires g t c =
    let found = common_is_struct _ _ c.args.s.now (tree_of c.args.value.now) c.in-Some.common c.requires.settled (c.args.id, c.requires.there) (c.in-Some.ensures.common c.args.context.now.program.now c.args.s.now c.args.context.now.united c.requires.settled c.requires.there c.requires.union) c.requires.fits in
    rec_if_tree c.args.value.now found.0 found.1 c.in_default-value.not-Rec

pub push_common-push_struct-requires : goal.push_common-push_struct-requires
push_common-push_struct-requires g t c κs within =
    let found = common_is_struct _ _ c.args.s.now (tree_of c.args.value.now) c.in-Some.common c.requires.settled (c.args.id, c.requires.there) (c.in-Some.ensures.common c.args.context.now.program.now c.args.s.now c.args.context.now.united c.requires.settled c.requires.there c.requires.union) c.requires.fits in (
      search (rules, the_lemmas),
      (
        within,
        (
          c.requires.settled,
          struct_parts _ _ (ty.Node c.in-Some.common None) (tree_of c.args.value.now) (trees (map tree_of c.deref.result.now)) c.structure_at.result.now
              (ap tree_of c.in-Rec.is ∙ tree-rec c.in-Rec.parts ∙ ap (λ (vs : List Value). Rec (trees (map tree_of vs))) (sym c.deref.ensures.value)) found.2 c.structure_at.ensures,
        ),
      ),
    )

pub push_common-returns : goal.push_common-returns
push_common-returns g t c = record {
  added =
      on_ok_weaker c.push_struct.result
      (common_shown _ _ c.args.s.now (tree_of c.args.value.now) (trees (map tree_of c.deref.result.now)) c.in-Some.common c.structure_at.result.now c.args.text.now c.append.new.self c.push.new.self c.push_struct.new.text
      (ap tree_of c.in-Rec.is ∙ tree-rec c.in-Rec.parts ∙ ap (λ (vs : List Value). Rec (trees (map tree_of vs))) (sym c.deref.ensures.value)) (c.in-Some.ensures.common c.args.context.now.program.now c.args.s.now c.args.context.now.united c.requires.settled c.requires.there c.requires.union) c.structure_at.ensures
      c.in_ok-append.ensures.added c.in_ok-push.ensures.added)
      c.push_struct.ensures.added;
}

-- ---- an array

pub push_row-loop-place-init : goal.push_row-loop-place-init
push_row-loop-place-init g t c = no_element c.args.elem.now c.args.parts.now _ _ c.in_ok-push.ensures.added

pub push_row-push_value-requires : goal.push_row-push_value-requires
push_row-push_value-requires g t c κs within = (
  search (rules, the_lemmas),
  (
    within,
    (
      c.requires.settled,
      element-fits c.args.elem.now (map tree_of c.args.parts.now) c.loop-place.place (tree_of c.index-parts-place.result) c.requires.fit
          (value_at c.args.parts.now c.loop-place.place c.index-parts-place.result c.loop-place-test.true c.index-parts-place.is),
    ),
  ),
)

pub push_row-loop-place-preserved : goal.push_row-loop-place-preserved
push_row-loop-place-preserved g t c =
    element_more c.args.elem.now c.args.parts.now c.loop-place.place c.index-parts-place.result _ c.loop-place.text c.push_separator.new.text c.push_value.new.text c.loop-place-test.true c.index-parts-place.is
    c.in_ok-push_separator.ensures.added c.in_ok-push_value.ensures.added c.loop-place.invariant

pub push_row-returns : goal.push_row-returns
push_row-returns g t c = record {
  added =
      on_ok_weaker c.push-2.result
      (λ is. elements_end c.args.elem.now c.args.parts.now c.loop-place.place c.args.text.now c.loop-place.text c.push-2.new.self c.loop-place-test.false is c.loop-place.invariant)
      c.push-2.ensures.added;
}

-- ---- a value

pub push_value-returns-in-Num : goal.push_value-returns-in-Num
push_value-returns-in-Num g t c =
    let pushed : OnOk c.push_number.result (c.push_number.new.text ≡ c.args.text.now ++ number_text c.in-Num.n) = search rules in
    record { added = on_ok_weaker c.push_number.result (number_added _ _ _ _ c.in-Num.n _ _ (ap tree_of c.in-Num.is ∙ tree-num c.in-Num.n) c.requires.fits) pushed }

pub push_value-returns-in-Null : goal.push_value-returns-in-Null
push_value-returns-in-Null g t c = record { added = on_ok_weaker c.append.result (null_added _ _ _ _ _ _ (ap tree_of c.in-Null.is ∙ tree-null) c.requires.fits) c.append.ensures.added }

pub push_value-returns-in-To : goal.push_value-returns-in-To
push_value-returns-in-To g t c =
    let e = ap tree_of c.in-To.is ∙ tree-to c.in-To.addr in
    let found = target_there _ _ c.args.ty.now (tree_of c.args.value.now) c.in-To.addr e c.requires.fits in
    record { added = on_ok_weaker c.push_target.result (target_added _ _ _ _ c.in-To.addr found.1.0 _ _ e found.0 found.1.1) (c.push_target.ensures.added found.1.0 found.1.1) }

pub push_value-returns-in_ok-append-in-Raw : goal.push_value-returns-in_ok-append-in-Raw
push_value-returns-in_ok-append-in-Raw g t c = record {
  added =
      on_ok_weaker c.push_bytes.result
      (opaque_added _ _ _ _ c.as_slice.result.now _ c.append-in-Raw.new.self _ (ap tree_of c.in-Raw.is ∙ tree-raw c.in-Raw.bytes ∙ ap Raw (sym c.as_slice.ensures.bytes)) c.requires.fits
      c.in_ok-append-in-Raw.ensures.added)
      c.push_bytes.ensures.added;
}

pub push_value-structure_of-requires : goal.push_value-structure_of-requires
push_value-structure_of-requires g t c = record {
  there =
      struct_there _ _ c.args.ty.now (tree_of c.args.value.now) (trees (map tree_of c.deref.result.now))
      (ap tree_of c.in-Rec.is ∙ tree-rec c.in-Rec.parts ∙ ap (λ (vs : List Value). Rec (trees (map tree_of vs))) (sym c.deref.ensures.value)) c.requires.fits;
}

pub push_value-push_struct-requires : goal.push_value-push_struct-requires
push_value-push_struct-requires g t c κs within = (
  search (rules, the_lemmas),
  (
    within,
    (
      c.requires.settled,
      struct_parts _ _ c.args.ty.now (tree_of c.args.value.now) (trees (map tree_of c.deref.result.now)) c.structure_of.result.now
          (ap tree_of c.in-Rec.is ∙ tree-rec c.in-Rec.parts ∙ ap (λ (vs : List Value). Rec (trees (map tree_of vs))) (sym c.deref.ensures.value)) c.requires.fits c.structure_of.ensures,
    ),
  ),
)

pub push_value-returns-in-Rec : goal.push_value-returns-in-Rec
push_value-returns-in-Rec g t c = record {
  added =
      on_ok_weaker c.push_struct.result
      (struct_added _ _ c.args.ty.now (tree_of c.args.value.now) (trees (map tree_of c.deref.result.now)) c.structure_of.result.now c.args.text.now c.push_struct.new.text
      (ap tree_of c.in-Rec.is ∙ tree-rec c.in-Rec.parts ∙ ap (λ (vs : List Value). Rec (trees (map tree_of vs))) (sym c.deref.ensures.value)) c.requires.fits c.structure_of.ensures)
      c.push_struct.ensures.added;
}

pub push_value-structure_of-s-requires : goal.push_value-structure_of-s-requires
push_value-structure_of-s-requires g t c = record {
  there = union_there _ _ c.args.ty.now (tree_of c.args.value.now) c.in-Alt.member (tree_of c.in-Alt.value) (ap tree_of c.in-Alt.is ∙ tree-alt c.in-Alt.member c.in-Alt.value) c.requires.fits;
}

pub push_value-push_member-requires : goal.push_value-push_member-requires
push_value-push_member-requires g t c κs within = (
  search (rules, the_lemmas),
  (
    within,
    (
      c.requires.settled,
      member_parts _ _ c.args.ty.now (tree_of c.args.value.now) c.in-Some.place (tree_of c.get.result.now) c.structure_of-s.result.now
          (ap tree_of c.in-Alt.is ∙ tree-alt c.in-Alt.member c.in-Alt.value ∙ ap₂ Alt c.in-Some.is (ap tree_of (sym c.get.ensures))) c.requires.fits c.structure_of-s.ensures,
    ),
  ),
)

pub push_value-returns-in-Some : goal.push_value-returns-in-Some
push_value-returns-in-Some g t c = record {
  added =
      on_ok_weaker c.push_member.result
      (member_added _ _ c.args.ty.now (tree_of c.args.value.now) c.in-Some.place (tree_of c.get.result.now) c.structure_of-s.result.now c.args.text.now c.push_member.new.text
      (ap tree_of c.in-Alt.is ∙ tree-alt c.in-Alt.member c.in-Alt.value ∙ ap₂ Alt c.in-Some.is (ap tree_of (sym c.get.ensures))) c.requires.fits c.structure_of-s.ensures)
      c.push_member.ensures.added;
}

pub push_value-node_of-requires : goal.push_value-node_of-requires
push_value-node_of-requires g t c = record {
  node =
      common_node _ _ c.args.ty.now (tree_of c.args.value.now) (tree_of c.get-in-None.result.now)
      (ap tree_of c.in-Alt.is ∙ tree-alt c.in-Alt.member c.in-Alt.value ∙ ap₂ Alt c.in-None.is (ap tree_of (sym c.get-in-None.ensures))) c.requires.fits;
}

pub push_value-push_common-requires : goal.push_value-push_common-requires
push_value-push_common-requires g t c κs within = (
  search (rules, the_lemmas),
  (
    within,
    (
      c.requires.settled,
      common_parts _ _ c.args.ty.now (tree_of c.args.value.now) (tree_of c.get-in-None.result.now) c.structure_of-s.result.now c.node_of.result
          (ap tree_of c.in-Alt.is ∙ tree-alt c.in-Alt.member c.in-Alt.value ∙ ap₂ Alt c.in-None.is (ap tree_of (sym c.get-in-None.ensures))) c.requires.fits c.structure_of-s.ensures c.node_of.ensures,
    ),
  ),
)

pub push_value-returns-in-None : goal.push_value-returns-in-None
push_value-returns-in-None g t c = record {
  added =
      on_ok_weaker c.push_common.result
      (common_added _ _ c.args.ty.now (tree_of c.args.value.now) (tree_of c.get-in-None.result.now) c.structure_of-s.result.now c.args.text.now c.push_common.new.text
      (ap tree_of c.in-Alt.is ∙ tree-alt c.in-Alt.member c.in-Alt.value ∙ ap₂ Alt c.in-None.is (ap tree_of (sym c.get-in-None.ensures))) c.requires.fits c.structure_of-s.ensures)
      c.push_common.ensures.added;
}

pub push_value-element_of-requires : goal.push_value-element_of-requires
push_value-element_of-requires g t c = record {
  array =
      row_there _ _ c.args.ty.now (tree_of c.args.value.now) (trees (map tree_of c.deref-in-Row.result.now))
      (ap tree_of c.in-Row.is ∙ tree-row c.in-Row.parts ∙ ap (λ (vs : List Value). Row (trees (map tree_of vs))) (sym c.deref-in-Row.ensures.value)) c.requires.fits;
}

pub push_value-push_row-requires : goal.push_value-push_row-requires
push_value-push_row-requires g t c κs within = (
  search (rules, the_lemmas),
  (
    within,
    (
      c.requires.settled,
      row_parts _ _ c.args.ty.now (tree_of c.args.value.now) (trees (map tree_of c.deref-in-Row.result.now)) c.element_of.result.now
          (ap tree_of c.in-Row.is ∙ tree-row c.in-Row.parts ∙ ap (λ (vs : List Value). Row (trees (map tree_of vs))) (sym c.deref-in-Row.ensures.value)) c.requires.fits c.element_of.ensures,
    ),
  ),
)

pub push_value-returns-in-Row : goal.push_value-returns-in-Row
push_value-returns-in-Row g t c = record {
  added =
      on_ok_weaker c.push_row.result
      (row_added _ _ c.args.ty.now (tree_of c.args.value.now) (trees (map tree_of c.deref-in-Row.result.now)) c.element_of.result.now c.args.text.now c.push_row.new.text
      (ap tree_of c.in-Row.is ∙ tree-row c.in-Row.parts ∙ ap (λ (vs : List Value). Row (trees (map tree_of vs))) (sym c.deref-in-Row.ensures.value)) c.requires.fits c.element_of.ensures)
      c.push_row.ensures.added;
}
