use Rattle.std.proofs.Common.{◌∙◌, arith}
use Rattle.gt_layout.proofs.Laying.{onward, field_within, fields_laid, held_more, few_of, placeable_of, made_grows, made_laid}
use Rattle.gt_layout.proofs.order.+order.Goals as goal

pub lay_out-lay_out_inner-requires : goal.lay_out-lay_out_inner-requires
lay_out-lay_out_inner-requires t c = (
  omega arith,
  (
    c.requires.settled,
    (
      c.loop-field.invariant.grows.all ∙ c.requires.all,
      (
        c.loop-field.invariant.grows.sound c.requires.sound,
        field_within c.args.program.now c.args.place c.args.depth c.as_slice.result.now c.index-as_slice-place.result c.as_slice-field-items.result.now c.loop-field.field-index c.field-item.result
            c.requires.settled c.as_slice.ensures.items c.requires.inside c.index-as_slice-place.is c.as_slice-field-items.ensures.items c.loop-field-test.true c.field-item.is c.requires.shallow,
      ),
    ),
  ),
)

pub lay_out-loop-field-preserved : goal.lay_out-loop-field-preserved
lay_out-loop-field-preserved t c = record {
  grows = onward c.args.program.now c.args.known.now.items c.loop-field.known.items c.lay_out_inner.new.known.items c.loop-field.invariant.grows c.in_ok-lay_out_inner.ensures.grows;
  held = held_more c.args.program.now c.loop-field.known.items c.lay_out_inner.new.known.items c.as_slice-field-items.result.now c.loop-field.field-index c.field-item.result c.loop-field-test.true c.field-item.is
      c.in_ok-lay_out_inner.ensures.grows c.in_ok-lay_out_inner.ensures.laid c.loop-field.invariant.held;
}

pub lay_out-plane-requires-clause-few_fields : goal.lay_out-plane-requires-clause-few_fields
lay_out-plane-requires-clause-few_fields t c =
    few_of c.args.program.now c.args.place c.as_slice.result.now c.index-as_slice-place.result c.requires.settled c.as_slice.ensures.items c.requires.inside c.index-as_slice-place.is

pub lay_out-plane-requires-clause-placeable : goal.lay_out-plane-requires-clause-placeable
lay_out-plane-requires-clause-placeable t c =
    placeable_of c.args.program.now c.args.place c.as_slice.result.now c.index-as_slice-place.result c.args.known.now.items c.loop-field.known.items c.as_slice-2.result.now c.requires.settled
    c.as_slice.ensures.items c.requires.inside c.index-as_slice-place.is c.requires.sound c.loop-field.invariant.grows
    (fields_laid c.loop-field.known.items c.as_slice-field-items.result.now c.index-as_slice-place.result.fields c.loop-field.field-index c.as_slice-field-items.ensures.items c.loop-field-test.false c.loop-field.invariant.held)
    c.as_slice-2.ensures.value

pub lay_out-returns-clause-grows : goal.lay_out-returns-clause-grows
lay_out-returns-clause-grows t c =
    made_grows c.args.program.now c.args.place c.as_slice.result.now c.index-as_slice-place.result c.args.known.now.items c.loop-field.known.items c.as_slice-2.result.now c.in_ok-made.made c.requires.settled
    c.as_slice.ensures.items c.requires.inside c.index-as_slice-place.is c.requires.all c.requires.sound c.loop-field.invariant.grows
    (fields_laid c.loop-field.known.items c.as_slice-field-items.result.now c.index-as_slice-place.result.fields c.loop-field.field-index c.as_slice-field-items.ensures.items c.loop-field-test.false c.loop-field.invariant.held)
    c.as_slice-2.ensures.value c.in_ok-made.ensures.plane c.in_ok-made.ensures.aligned

pub lay_out-returns-clause-laid : goal.lay_out-returns-clause-laid
lay_out-returns-clause-laid t c =
    made_laid c.args.program.now c.args.place c.args.known.now.items c.loop-field.known.items c.in_ok-made.made c.requires.inside c.requires.all c.loop-field.invariant.grows c.in_ok-made.ensures.aligned
