use Rattle.std.proofs.Common.{◌≡◌, length}
use Rattle.gt_marked.specs.Types.{stars_from}
use Rattle.gt_marked.proofs.types.more_stars.Given as goal

abbrev pub invariant-loop-rest : goal.invariant-loop-rest
invariant-loop-rest l = stars_from l.stars l.rest ≡ stars_from l.fn.stars l.tokens

abbrev pub decreases-loop-rest : goal.decreases-loop-rest
decreases-loop-rest l = length l.rest
