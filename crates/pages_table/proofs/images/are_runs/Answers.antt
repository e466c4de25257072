use Rattle.pages_table.proofs.Runs.{all_start, next_starts, none_start}
use Rattle.pages_table.proofs.images.are_runs.Goals as goal

pub loop-run-init : goal.loop-run-init
loop-run-init c = none_start c.args.runs.now

pub loop-run-preserved : goal.loop-run-preserved
loop-run-preserved c =
    next_starts c.args.runs.now c.loop-run.below c.loop-run.run-index _ c.loop-run-test.true c.loop-run.invariant (c.may_follow.ensures c.if-not-may_follow.false)

pub returns : goal.returns
returns c = λ _. all_start c.args.runs.now c.loop-run.below c.loop-run.run-index c.loop-run-test.false c.loop-run.invariant
