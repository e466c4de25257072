use Rattle.std.proofs.Common.{◌+◌, ◌∙◌, refl, sym, subst, take, arith, List}
use Rattle.gt_drafts.specs.declared.draft.DraftField.{DraftField}
use Rattle.gt_markers.specs.Members.{AreMembers}
use Rattle.gt_markers.proofs.FieldLemmas.{first_from_field, first_from_fields, is_end, taken_more}
use Rattle.gt_markers.proofs.structure_faults.of_fields.Goals as goal

pub loop-place-init : goal.loop-place-init
loop-place-init c = record { found = refl; members = c.new-before.ensures.none c.args.draft.now }

pub loop-place-preserved : goal.loop-place-preserved
loop-place-preserved c =
    let draft = c.args.draft.now in
    let structure = c.args.structure.now in
    let fields = c.args.fields.now in
    let place = c.loop-place.place in
    let field = c.index-fields-place.result in
    let before = take place fields in
    record {
      found =
          first_from_field draft structure c.loop-place.earliest c.in_ok-earliest.earliest place fields field _ (omega arith) c.index-fields-place.is
          (is_end fields (place + 1) (omega arith)) (c.in_ok-earliest.ensures.earliest before c.loop-place.invariant.members)
          ∙ c.loop-place.invariant.found;
      members =
          subst (λ (taken : List DraftField). AreMembers draft taken c.of_field.new.before) (sym (taken_more place fields field (omega arith) c.index-fields-place.is))
          (c.in_ok-earliest.ensures.members before c.loop-place.invariant.members);
    }

pub returns : goal.returns
returns c =
    record {
      earliest =
          first_from_fields c.args.draft.now c.args.structure.now c.loop-place.earliest c.loop-place.place c.args.fields.now (omega arith)
          ∙ c.loop-place.invariant.found;
    }
