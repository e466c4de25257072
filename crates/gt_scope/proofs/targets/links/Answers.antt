use Rattle.std.proofs.Common.{◌≡◌, ◌∙◌, ◌<◌, length, get_or, Some, ap, sym, arith}
use Rattle.std.specs.Prelude.{slice_get}
use Rattle.std.proofs.lemmas.Option.{slice_get-get_or}
use Rattle.gt_scope.proofs.TargetLemmas.{first_within, links_more, links_all}
use Rattle.gt_scope.proofs.targets.links.Goals as goal

pub target_at-to-requires : goal.target_at-to-requires
target_at-to-requires c =
    let counted = c.requires.firsts.counted in
    let entries = ap length c.entries-entry-items.ensures.entries in
    let within : c.loop-place.place < length c.args.typedefs.now = omega arith in
    let first : c.loop-place.place < length c.args.firsts.now = omega arith in
    record {
      within =
          first_within c.args.declarations.now c.args.typedefs.now c.args.firsts.now c.args.targets.now c.loop-place.place
          (get_or c.args.firsts.now c.loop-place.place 0) c.requires.firsts c.requires.counted within
          (slice_get-get_or c.args.firsts.now c.loop-place.place 0 first);
    }

pub loop-place-preserved : goal.loop-place-preserved
loop-place-preserved c =
    let counted = c.requires.firsts.counted in
    let entries = ap length c.entries-entry-items.ensures.entries in
    let within : c.loop-place.place < length c.args.typedefs.now = omega arith in
    let first : c.loop-place.place < length c.args.firsts.now = omega arith in
    let found : slice_get c.args.typedefs.now c.loop-place.place ≡ Some c.entry-item.result =
    ap (λ es. slice_get es c.loop-place.place) (sym c.entries-entry-items.ensures.entries)
    ∙ slice_get-get_or c.entries-entry-items.result.now c.loop-place.place c.entry-item.result c.loop-place-test.true ∙ ap Some (sym c.entry-item.is) in
    λ defined tags lead.
    links_more c.args.declarations.now defined c.args.typedefs.now tags c.args.firsts.now c.args.targets.now c.requires.firsts lead c.loop-place.made.items
    c.loop-place.place (c.loop-place.invariant defined tags lead) c.entry-item.result found (get_or c.args.firsts.now c.loop-place.place 0)
    (slice_get-get_or c.args.firsts.now c.loop-place.place 0 first) c.target_at-to.result (sym c.target_at-to.ensures.target) c.push.new.self.items
    c.in_ok-push.ensures.items

pub returns : goal.returns
returns c =
    let entries = ap length c.entries-entry-items.ensures.entries in
    let all : c.loop-place.place ≡ length c.args.typedefs.now = omega arith in
    record {
      links = λ defined tags lead.
          links_all defined c.args.typedefs.now tags c.loop-place.made.items c.loop-place.place (c.loop-place.invariant defined tags lead) all;
    }
