use Rattle.std.proofs.Common.{◌≡◌, ◌++◌, length}
use Rattle.gt_expr.specs.Reading.{steps_at}
use Rattle.gt_expr.proofs.reading.more_steps.Given as goal

abbrev pub invariant-loop-rest : goal.invariant-loop-rest
invariant-loop-rest l = record {
  steps : l.steps ++ (steps_at l.rest).0 ≡ l.fn.steps ++ (steps_at l.parts).0;
  rest : (steps_at l.rest).1 ≡ (steps_at l.parts).1;
}

abbrev pub decreases-loop-rest : goal.decreases-loop-rest
decreases-loop-rest l = length l.rest
