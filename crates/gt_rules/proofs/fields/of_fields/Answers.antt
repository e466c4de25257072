use Rattle.std.proofs.Common.{◌∙◌, length, refl, sym, subst, arith}
use Rattle.std.proofs.lemmas.Option.{slice_get_read}
use Rattle.gt_types.specs.declared.program.Field.{Field}
use Rattle.gt_paths.specs.Checks.{Checked}
use Rattle.gt_drafts.specs.declared.draft.DraftField.{DraftField}
use Rattle.gt_rules.specs.Parts.{AreChecksFor, AtPlace, FieldFaults, IsFirstWith}
use Rattle.gt_rules.proofs.FirstLemmas.{first_at_place, first_below_more, first_below_none, first_of_each}
use Rattle.gt_rules.proofs.fields.of_fields.Goals as goal

pub loop-place-init : goal.loop-place-init
loop-place-init c =
    let faults = λ (df : DraftField) (f : Field). FieldFaults c.args.known.draft.now c.args.known.program.now c.args.checks.now.node c.args.file df f in
    (first_below_none c.args.fields.now (λ k df. AtPlace c.args.made.now k (faults df)) c.args.earliest, refl)

pub loop-place-preserved : goal.loop-place-preserved
loop-place-preserved c =
    let faults = λ (df : DraftField) (f : Field). FieldFaults c.args.known.draft.now c.args.known.program.now c.args.checks.now.node c.args.file df f in
    let fields = c.args.fields.now in
    let made = c.args.made.now in
    let place = c.loop-place.place in
    let df = c.index-fields-place.result in
    let f = c.index-made-place.result in (
      first_below_more fields (λ k d. AtPlace made k (faults d)) place df c.args.earliest c.loop-place.earliest c.in_ok-earliest.earliest
          (slice_get_read fields (length fields) place df refl (omega arith) c.index-fields-place.is) c.loop-place.invariant.0
          (first_at_place made place (faults df) f c.loop-place.earliest c.in_ok-earliest.earliest
          (slice_get_read made (length made) place f refl (omega arith) c.index-made-place.is)
          (subst (λ (k : Checked). IsFirstWith c.loop-place.earliest (FieldFaults c.args.known.draft.now c.args.known.program.now k.node c.args.file df f) c.in_ok-earliest.earliest) c.loop-place.invariant.1
          c.in_ok-earliest.ensures.first)),
      c.of_field.ensures.same ∙ c.loop-place.invariant.1,
    )

pub of_field-requires-clause-checks : goal.of_field-requires-clause-checks
of_field-requires-clause-checks c = subst (AreChecksFor c.args.known.draft.now c.args.known.program.now) (sym c.loop-place.invariant.1) c.requires.checks

pub returns : goal.returns
returns c =
    let faults = λ (df : DraftField) (f : Field). FieldFaults c.args.known.draft.now c.args.known.program.now c.args.checks.now.node c.args.file df f in
    record {
      first = first_of_each c.args.fields.now (λ k df. AtPlace c.args.made.now k (faults df)) c.loop-place.place c.args.earliest c.loop-place.earliest (omega arith) c.loop-place.invariant.0;
    }
