use Rattle.std.proofs.Common.{◌∙◌, Bool, sym, ap}
use Rattle.std.specs.Prelude.{◌&&◌, ◌||◌, not}
use Rattle.gt_drafts.specs.Sameness.{same_bool}
use Rattle.gt_drafts.specs.FirstFaults.{first_from}
use Rattle.gt_markers.specs.Options.{exclude, has_parameter, needs_parameter}
use Rattle.gt_markers.specs.Sites.{is_tag, may_stand, stands_among}
use Rattle.gt_markers.specs.SiteViews.{site_of}
use Rattle.gt_markers.proofs.Firsts.{first_from_both, first_from_if, first_from_numbered}
use Rattle.gt_markers.proofs.KindLemmas.{any_in, stands_by_kind}
use Rattle.gt_markers.proofs.MarkerLemmas.{known_counted}
use Rattle.gt_markers.proofs.marker_faults.with_kind_faults.Goals as goal

pub returns : goal.returns
returns c =
    let site = site_of c.args.marker.site in
    let options = c.args.marker.options.now in
    let kind = c.args.kind in
    let o = c.args.option.now in
    let misplaced =
    ap not (c.may_hold-misplaced.ensures.may options c.requires.all ∙ ap (λ ss. may_stand ss site options kind) c.as_slice.ensures.items) in
    record {
      earliest = λ before are.
          let repeated = c.has-repeated.ensures.has ∙ stands_by_kind o kind c.requires.kind before c.args.standing.before are in
          let excluded = c.exclude-excluded.ensures.excluded ∙ any_in (exclude kind) before c.args.standing.before are in
          let ill =
          c.is_ill_formed-ill.ensures.ill
          ∙ ap
          (λ (b : Bool). not (same_bool (needs_parameter kind) (has_parameter o.parameter)) || (not (is_tag kind) && b) || c.exclude-excluded.result)
          repeated
          ∙ ap
          (λ (b : Bool). not (same_bool (needs_parameter kind) (has_parameter o.parameter)) || (not (is_tag kind) && stands_among before o) || b) excluded in
          let second = c.is_second_tag-second.ensures.second ∙ ap (λ (b : Bool). is_tag kind && b) repeated in
          first_from_both _ _ _ _ _
          (first_from_both _ _ _ _ _
          (first_from_both _ _ _ _ _
          (first_from_both _ _ _ _ _ (first_from_if _ _ _ _ _ _ _ c.with_fault-earliest.ensures.same ill)
          (first_from_numbered _ _ _ _ _ _ _ _ c.with_fault-earliest-2.ensures.same misplaced c.wrong_number-number.ensures.number))
          (first_from_if _ _ _ _ _ _ _ c.with_fault-earliest-3.ensures.same second))
          (first_from_if _ _ _ _ _ _ _ c.with_fault-earliest-4.ensures.same (c.in_ok-bad.ensures.bad c.args.draft.now c.requires.lookup)))
          (first_from_if _ _ _ _ _ _ _ c.with_fault.ensures.same c.is_unknown_hook-unknown.ensures)
          ∙ ap (first_from c.args.earliest) (sym (known_counted c.args.draft.now site options c.args.marker.file before o kind c.requires.counted));
    }
