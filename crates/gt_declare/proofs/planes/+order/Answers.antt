use Rattle.std.proofs.Common.{◌∙◌, arith}
use Rattle.gt_layout.proofs.Laying.{read_at}
use Rattle.gt_declare.proofs.Ideals.{sound_at}
use Rattle.gt_declare.proofs.LayingSteps.{field_shallow, few_at, held_more, laid_after, grows_after, onward, placeable_at, small_fields}
use Rattle.gt_declare.proofs.planes.+order.Goals as goal

pub lay_out-lay_out_inner-requires : goal.lay_out-lay_out_inner-requires
lay_out-lay_out_inner-requires t c = (
  omega arith,
  (
    c.requires.draft,
    (
      c.requires.lookup,
      (
        c.loop-field.invariant.grows.all ∙ c.requires.all,
        (
          c.loop-field.invariant.grows.sound c.requires.sound,
          field_shallow c.args.draft.now c.args.place c.args.depth c.as_slice.result.now c.index-as_slice-place.result c.as_slice-field-items.result.now c.loop-field.field-index c.field-item.result
              c.requires.draft c.as_slice.ensures.items c.requires.inside c.index-as_slice-place.is c.as_slice-field-items.ensures.items c.loop-field-test.true c.field-item.is c.requires.shallow,
        ),
      ),
    ),
  ),
)

pub lay_out-loop-field-preserved : goal.lay_out-loop-field-preserved
lay_out-loop-field-preserved t c = record {
  grows = onward c.args.draft.now c.args.known.now.items c.loop-field.known.items c.lay_out_inner.new.known.items c.loop-field.invariant.grows c.in_ok-lay_out_inner.ensures.grows;
  held = held_more c.args.draft.now c.loop-field.known.items c.lay_out_inner.new.known.items c.as_slice-field-items.result.now c.loop-field.field-index c.field-item.result c.loop-field-test.true c.field-item.is
      c.in_ok-lay_out_inner.ensures.grows c.in_ok-lay_out_inner.ensures.laid c.loop-field.invariant.held;
}

pub lay_out-structure_without_chains-requires-clause-small : goal.lay_out-structure_without_chains-requires-clause-small
lay_out-structure_without_chains-requires-clause-small t c =
    small_fields c.args.draft.now c.index-as_slice-place.result c.requires.draft
    (sound_at c.args.draft.now c.args.place c.index-as_slice-place.result c.requires.draft
    (read_at c.as_slice.result.now c.args.draft.now.structures c.args.place c.index-as_slice-place.result c.as_slice.ensures.items c.requires.inside c.index-as_slice-place.is))

pub lay_out-plane-requires-clause-few_fields : goal.lay_out-plane-requires-clause-few_fields
lay_out-plane-requires-clause-few_fields t c =
    few_at c.args.draft.now c.args.place c.as_slice.result.now c.index-as_slice-place.result c.as_slice-field-items.result.now c.loop-field.field-index c.args.known.now.items c.loop-field.known.items
    c.requires.draft c.as_slice.ensures.items c.requires.inside c.index-as_slice-place.is c.requires.all c.requires.sound c.loop-field.invariant.grows c.as_slice-field-items.ensures.items
    c.loop-field-test.false c.loop-field.invariant.held
    c.as_slice-2.result.now c.in_ok-made.made c.in_ok-made.ensures.made

pub lay_out-plane-requires-clause-placeable : goal.lay_out-plane-requires-clause-placeable
lay_out-plane-requires-clause-placeable t c =
    placeable_at c.args.draft.now c.args.place c.as_slice.result.now c.index-as_slice-place.result c.as_slice-field-items.result.now c.loop-field.field-index c.args.known.now.items c.loop-field.known.items
    c.requires.draft c.as_slice.ensures.items c.requires.inside c.index-as_slice-place.is c.requires.all c.requires.sound c.loop-field.invariant.grows c.as_slice-field-items.ensures.items
    c.loop-field-test.false c.loop-field.invariant.held
    c.as_slice-2.result.now c.as_slice-3.result.now c.in_ok-made.made c.as_slice-2.ensures.value c.as_slice-3.ensures.value c.in_ok-made.ensures.made

pub lay_out-returns-clause-grows : goal.lay_out-returns-clause-grows
lay_out-returns-clause-grows t c =
    grows_after c.args.draft.now c.args.place c.as_slice.result.now c.index-as_slice-place.result c.as_slice-field-items.result.now c.loop-field.field-index c.args.known.now.items c.loop-field.known.items
    c.requires.draft c.as_slice.ensures.items c.requires.inside c.index-as_slice-place.is c.requires.all c.requires.sound c.loop-field.invariant.grows c.as_slice-field-items.ensures.items
    c.loop-field-test.false c.loop-field.invariant.held
    c.as_slice-2.result.now c.as_slice-3.result.now c.in_ok-made.made c.in_ok-laid.laid c.as_slice-2.ensures.value c.as_slice-3.ensures.value c.in_ok-made.ensures.made
    c.in_ok-laid.ensures.plane c.in_ok-laid.ensures.aligned

pub lay_out-returns-clause-laid : goal.lay_out-returns-clause-laid
lay_out-returns-clause-laid t c =
    laid_after c.args.draft.now c.args.place c.as_slice.result.now c.index-as_slice-place.result c.as_slice-field-items.result.now c.loop-field.field-index c.args.known.now.items c.loop-field.known.items
    c.requires.draft c.as_slice.ensures.items c.requires.inside c.index-as_slice-place.is c.requires.all c.requires.sound c.loop-field.invariant.grows c.as_slice-field-items.ensures.items
    c.loop-field-test.false c.loop-field.invariant.held
    c.in_ok-laid.laid c.in_ok-laid.ensures.aligned
