use Rattle.std.proofs.Common.{◌∙◌, List, arith, refl, subst, sym, take}
use Rattle.gt_items.specs.declared.items.RawOption.{RawOption}
use Rattle.gt_markers.specs.KindSets.{AreKindsOf}
use Rattle.gt_markers.specs.SiteViews.{site_of}
use Rattle.gt_markers.proofs.MarkerLemmas.{first_from_option, first_from_options, options_taken_more}
use Rattle.gt_markers.proofs.marker_faults.of_marker.Goals as goal

pub loop-option-init : goal.loop-option-init
loop-option-init c = record { found = refl; kinds = c.none-before.ensures.none }

pub loop-option-preserved : goal.loop-option-preserved
loop-option-preserved c =
    let options = c.args.marker.options.now in
    let place = c.loop-option.option-index in
    let option = c.option-item.result in
    let before = take place options in
    record {
      found =
          first_from_option c.args.draft.now (site_of c.args.marker.site) c.args.marker.file c.loop-option.earliest c.in_ok-earliest.earliest place options option
          (omega arith) c.option-item.is (c.in_ok-earliest.ensures.earliest before c.loop-option.invariant.kinds)
          ∙ c.loop-option.invariant.found;
      kinds =
          subst (λ (taken : List RawOption). AreKindsOf taken c.with-before.result) (sym (options_taken_more place options option (omega arith) c.option-item.is))
          (c.with-before.ensures.with before c.loop-option.invariant.kinds);
    }

pub returns : goal.returns
returns c =
    record {
      earliest =
          first_from_options c.args.draft.now (site_of c.args.marker.site) c.args.marker.file c.loop-option.earliest c.loop-option.option-index
          c.args.marker.options.now (omega arith)
          ∙ c.loop-option.invariant.found;
    }
