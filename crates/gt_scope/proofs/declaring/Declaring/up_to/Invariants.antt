use Rattle.std.proofs.Common.{◌≡◌, length}
use Rattle.gt_scope.specs.Declarations.{up_to}
use Rattle.gt_scope.proofs.declaring.Declaring.up_to.Given as goal

abbrev pub invariant-loop-rest : goal.invariant-loop-rest
invariant-loop-rest l = up_to l.file l.at (record l.self { defines = l.rest }) ≡ up_to l.file l.at l.fn.self

abbrev pub decreases-loop-rest : goal.decreases-loop-rest
decreases-loop-rest l = length l.rest
