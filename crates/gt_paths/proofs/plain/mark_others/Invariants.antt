use Rattle.gt_paths.specs.Marks.{MarksOthers}
use Rattle.gt_paths.proofs.plain.mark_others.Given as goal

abbrev pub invariant-loop-place : goal.invariant-loop-place
invariant-loop-place l = MarksOthers l.found.keys l.place-counter l.marks.items
