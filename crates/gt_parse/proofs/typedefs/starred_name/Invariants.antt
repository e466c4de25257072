use Rattle.std.proofs.Common.{◌≡◌, length}
use Rattle.gt_parse.specs.Unmarked.{starred_name}
use Rattle.gt_parse.proofs.typedefs.starred_name.Given as goal

abbrev pub invariant-loop-rest : goal.invariant-loop-rest
invariant-loop-rest l = starred_name l.rest ≡ starred_name l.tokens

abbrev pub decreases-loop-rest : goal.decreases-loop-rest
decreases-loop-rest l = length l.rest
