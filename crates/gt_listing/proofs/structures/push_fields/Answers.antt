use Rattle.std.proofs.Common.{refl, length}
use Rattle.std.proofs.lemmas.Option.{slice_get_read}
use Rattle.gt_listing.proofs.Rests.{field-step}
use Rattle.gt_listing.proofs.structures.push_fields.Goals as goal

pub loop-i-preserved : goal.loop-i-preserved
loop-i-preserved c =
    field-step c.args.program.now c.args.fields.now c.args.spots.now c.loop-i.i c.index-fields-i.result c.in-Some.s.now c.loop-i.text c.push_field.new.text _
    (slice_get_read c.args.fields.now (length c.args.fields.now) c.loop-i.i c.index-fields-i.result refl c.loop-i-test.true c.index-fields-i.is)
    (slice_get_read c.args.spots.now (length c.args.spots.now) c.loop-i.i c.in-Some.s.now refl c.in-Some.ensures.lookup.3.0 c.in-Some.ensures.lookup.1)
    c.in_ok-push_field.ensures.added c.loop-i.invariant
