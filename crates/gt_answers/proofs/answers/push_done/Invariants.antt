use Rattle.std.proofs.Common.{◌≡◌, ◌++◌, replicate}
use Rattle.gt_next.specs.declared.answer.Answer.TheVariants.{Done}
use Rattle.gt_answers.proofs.answers.push_done.Given as goal

abbrev pub invariant-loop : goal.invariant-loop
invariant-loop l = l.list ≡ l.fn.list ++ replicate l.counter Done
