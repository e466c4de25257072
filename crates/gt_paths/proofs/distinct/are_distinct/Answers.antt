use Rattle.gt_paths.proofs.Firsts.{distinct_all, distinct_more}
use Rattle.gt_paths.proofs.distinct.are_distinct.Goals as goal

pub loop-place-preserved : goal.loop-place-preserved
loop-place-preserved c =
    distinct_more c.as_slice-s-items.result.now c.loop-place.place c.s-item.result c.as_slice.result.now c.loop-place-test.true c.s-item.is c.as_slice.ensures.items
    (c.has_distinct_names.ensures.distinct c.if-not-has_distinct_names.false c.args.program.now.structures c.requires.names) c.loop-place.invariant

pub returns : goal.returns
returns c = record {
  distinct = λ _. distinct_all c.as_slice-s-items.result.now c.args.program.now.structures c.loop-place.place c.loop-place-test.false c.as_slice-s-items.ensures.items c.loop-place.invariant;
}
