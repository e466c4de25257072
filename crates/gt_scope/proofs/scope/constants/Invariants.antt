use Rattle.std.proofs.Common.{◌≡◌, [], drop}
use Rattle.gt_scope.specs.Declarations.{as_constant}
use Rattle.gt_scope.specs.Tables.{values_from}
use Rattle.gt_scope.proofs.scope.constants.Given as goal

abbrev pub invariant-loop-declaration : goal.invariant-loop-declaration
invariant-loop-declaration l = values_from as_constant l.made (drop l.declaration-index l.declarations) ≡ values_from as_constant [] l.declarations
