use Rattle.gt_paths.proofs.Firsts.{all_first, first_more, none_first}
use Rattle.gt_paths.proofs.distinct.has_distinct_names.Goals as goal

pub loop-place-init : goal.loop-place-init
loop-place-init c structures are = none_first structures c.args.node.0 c.args.fields.now

pub loop-place-preserved : goal.loop-place-preserved
loop-place-preserved c structures are =
    first_more structures c.args.node.0 c.args.fields.now c.loop-place.place c.index-fields-place.result c.loop-place-test.true c.index-fields-place.is
    (c.is_first.ensures.first c.if-not-is_first.false structures are) (c.loop-place.invariant structures are)

pub returns : goal.returns
returns c = record { distinct = λ _ structures are. all_first structures c.args.node.0 c.args.fields.now c.loop-place.place c.loop-place-test.false (c.loop-place.invariant structures are) }
