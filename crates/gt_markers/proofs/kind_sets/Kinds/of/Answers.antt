use Rattle.std.proofs.Common.{List, arith, take, sym, subst}
use Rattle.std.proofs.lemmas.List.{take_all}
use Rattle.gt_items.specs.declared.items.RawOption.{RawOption}
use Rattle.gt_markers.specs.KindSets.{AreKindsOf}
use Rattle.gt_markers.proofs.MarkerLemmas.{options_taken_more}
use Rattle.gt_markers.proofs.kind_sets.Kinds.of.Goals as goal

pub loop-option-preserved : goal.loop-option-preserved
loop-option-preserved c =
    let options = c.args.options.now in
    let place = c.loop-option.option-index in
    let option = c.option-item.result in
    subst (λ (taken : List RawOption). AreKindsOf taken c.with-kinds.result) (sym (options_taken_more place options option (omega arith) c.option-item.is))
    (c.with-kinds.ensures.with (take place options) c.loop-option.invariant)

pub returns : goal.returns
returns c =
    record {
      kinds =
          subst (λ (taken : List RawOption). AreKindsOf taken c.loop-option.kinds) (take_all c.loop-option.option-index c.args.options.now (omega arith))
          c.loop-option.invariant;
    }
