use Rattle.std.proofs.Common.{◌≡◌, drop}
use Rattle.gt_scope.specs.Declarations.{with_rest}
use Rattle.gt_scope.proofs.declaring.Declaring.with_rest.Given as goal

abbrev pub invariant-loop-define : goal.invariant-loop-define
invariant-loop-define l = with_rest l.file (record l.self { defines = drop l.define-index l.rest }) ≡ with_rest l.file l.fn.self
