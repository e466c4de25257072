use Rattle.std.proofs.Common.{◌≡◌, length}
use Rattle.gt_marked.specs.Markers.{more_strings}
use Rattle.gt_marked.proofs.strings.more_strings.Given as goal

abbrev pub invariant-loop-rest : goal.invariant-loop-rest
invariant-loop-rest l = more_strings l.text l.rest ≡ more_strings l.fn.text l.tokens

abbrev pub decreases-loop-rest : goal.decreases-loop-rest
decreases-loop-rest l = length l.rest
