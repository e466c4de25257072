use Rattle.std.proofs.Common.{List, subst}
use Rattle.gt_items.specs.declared.items.RawOption.{RawOption}
use Rattle.gt_markers.specs.declared.TheConstants.{BAD_PATH}
use Rattle.gt_rules.specs.Parts.{HoldsInner, IsFirstWith, RootFaultsBy}
use Rattle.gt_rules.proofs.FirstLemmas.{first_if, first_of_both}
use Rattle.gt_rules.proofs.roots.of_root.Goals as goal

pub returns : goal.returns
returns c =
    let root = c.args.root.now in
    let program = c.args.known.program.now in
    let type = c.args.made.now.ty in
    record {
      first =
          subst (λ (os : List RawOption). IsFirstWith c.args.earliest (RootFaultsBy c.args.known.draft.now program root.file root.name.at root.ty type os) c.of_reorder.result)
          c.as_slice.ensures.items
          (first_of_both c.of_type-earliest.ensures.first
          (first_of_both
          (first_if c.of_type-earliest.result c.with_fault-earliest.result c.holds_inner-inner.result (HoldsInner c.args.known.draft.now type) BAD_PATH root.file root.name.at c.with_fault-earliest.ensures.same
          c.holds_inner-inner.ensures.decides)
          (first_of_both c.in_ok-earliest.ensures.first (first_of_both c.in_ok-earliest-2.ensures.first c.of_reorder.ensures.first))));
    }
