use Rattle.std.proofs.Common.{◌≡◌, ◌∙◌, [], ap}
use Rattle.gt_drafts.specs.FirstFaults.{first_from}
use Rattle.gt_markers.specs.MarkerFaults.{fields_faults, structure_faults}
use Rattle.gt_markers.specs.Sites.{at_structure, marker_faults}
use Rattle.gt_markers.proofs.Firsts.{first_from_both, if_ok}
use Rattle.gt_markers.proofs.structure_faults.of_structure.Goals as goal

pub returns : goal.returns
returns c =
    let draft = c.args.draft.now in
    let s = c.args.structure.now in
    record {
      earliest =
          if_ok c.of_fields.result (λ r. r ≡ first_from c.in_ok-earliest.earliest (fields_faults draft s [] c.as_slice-2.result.now))
          (λ r. r ≡ first_from c.args.earliest (structure_faults draft s))
          (λ r h. first_from_both _ _ _ _ _
          (c.in_ok-earliest.ensures.earliest ∙ ap (λ os. first_from c.args.earliest (marker_faults draft (at_structure s.is_union) s.file os)) c.as_slice.ensures.items)
          (h ∙ ap (λ fs. first_from c.in_ok-earliest.earliest (fields_faults draft s [] fs)) c.as_slice-2.ensures.items))
          c.of_fields.ensures.earliest;
    }
