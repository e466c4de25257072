use Rattle.std.proofs.Common.{◌≡◌, ◌+◌, drop}
use Rattle.gt_resolve.specs.Placings.{faults_from, item_or_rest}
use Rattle.gt_resolve.proofs.placing.fault_in_files.Given as goal

-- what is found after so many files is what is found in all
abbrev pub invariant-loop-at : goal.invariant-loop-at
invariant-loop-at l = item_or_rest (faults_from l.tags (l.at + 1) (drop l.at l.files)) l.rest ≡ item_or_rest (faults_from l.tags 1 l.files) l.place
