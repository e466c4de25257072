use Rattle.std.proofs.Common.{◌≡◌, length}
use Rattle.gt_marked.specs.Types.{without_qualifiers}
use Rattle.gt_marked.proofs.types.without_qualifiers.Given as goal

abbrev pub invariant-loop-rest : goal.invariant-loop-rest
invariant-loop-rest l = without_qualifiers l.rest ≡ without_qualifiers l.tokens

abbrev pub decreases-loop-rest : goal.decreases-loop-rest
decreases-loop-rest l = length l.rest
