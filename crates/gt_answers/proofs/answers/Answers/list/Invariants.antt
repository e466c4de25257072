use Rattle.std.proofs.Common.{◌≡◌, take}
use Rattle.gt_answers.specs.Kept.{answers_in}
use Rattle.gt_answers.proofs.answers.Answers.list.Given as goal

abbrev pub invariant-loop-later : goal.invariant-loop-later
invariant-loop-later l = l.list ≡ answers_in (take l.later-index l.later-items) 0
