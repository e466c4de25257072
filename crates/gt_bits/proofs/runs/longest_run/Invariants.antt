use Rattle.std.proofs.Common.{◌-◌}
use Rattle.gt_bits.proofs.RunLemmas.{LongestBefore}
use Rattle.gt_bits.proofs.runs.longest_run.Given as goal

abbrev pub invariant-runs : goal.invariant-runs
invariant-runs l = LongestBefore l.words l.end l.from l.longest

abbrev pub decreases-runs : goal.decreases-runs
decreases-runs l = l.end - l.from
