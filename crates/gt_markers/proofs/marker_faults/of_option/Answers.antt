use Rattle.std.proofs.Common.{◌≡◌, ◌∙◌, List, sym, ap}
use Rattle.gt_items.specs.declared.items.RawOption.{RawOption}
use Rattle.gt_drafts.specs.FirstFaults.{first_from}
use Rattle.gt_markers.specs.KindSets.{AreKindsOf}
use Rattle.gt_markers.specs.Options.{kind_of}
use Rattle.gt_markers.specs.Sites.{known_faults, option_faults}
use Rattle.gt_markers.specs.SiteViews.{site_of}
use Rattle.gt_markers.proofs.Firsts.{if_ok}
use Rattle.gt_markers.proofs.MarkerLemmas.{known_too, passed, unknown_too}
use Rattle.gt_markers.proofs.marker_faults.of_option.Goals as goal

pub with_kind_faults-requires : goal.with_kind_faults-requires
with_kind_faults-requires c =
    record {
      lookup = c.requires.lookup;
      all = c.requires.all;
      kind = sym c.in-Some.ensures.kind;
      counted = sym (c.passes_over.ensures.passes c.args.marker.options.now c.requires.all) ∙ c.if-passes_over.false;
    }

pub returns-in_default : goal.returns-in_default
returns-in_default c =
    record {
      earliest = λ before are.
          c.with_fault.ensures.same
          ∙ ap (first_from c.args.earliest)
          (unknown_too c.args.draft.now (site_of c.args.marker.site) c.args.marker.options.now c.args.marker.file before c.args.option.now
          (kind_of c.args.option.now.name.word) (sym c.in_default.ensures.kind));
    }

pub returns-then-passes_over : goal.returns-then-passes_over
returns-then-passes_over c =
    record {
      earliest = λ before are.
          passed c.args.draft.now (site_of c.args.marker.site) c.args.marker.options.now c.args.marker.file before c.args.option.now c.in-Some.kind
          (kind_of c.args.option.now.name.word) c.args.earliest (sym c.in-Some.ensures.kind)
          (sym (c.passes_over.ensures.passes c.args.marker.options.now c.requires.all) ∙ c.if-passes_over.true);
    }

pub returns : goal.returns
returns c =
    let draft = c.args.draft.now in
    let site = site_of c.args.marker.site in
    let options = c.args.marker.options.now in
    let file = c.args.marker.file in
    let o = c.args.option.now in
    let e = c.args.earliest in
    record {
      earliest =
          if_ok c.with_kind_faults.result
          (λ r. (before : List RawOption) → AreKindsOf before c.args.standing.before → r ≡ first_from e (known_faults draft site options file before o c.in-Some.kind))
          (λ r. (before : List RawOption) → AreKindsOf before c.args.standing.before → r ≡ first_from e (option_faults draft site options file before o))
          (λ r h before are.
          h before are ∙ ap (first_from e) (known_too draft site options file before o c.in-Some.kind (kind_of o.name.word) (sym c.in-Some.ensures.kind)))
          c.with_kind_faults.ensures.earliest;
    }
