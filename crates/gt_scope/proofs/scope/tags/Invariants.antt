use Rattle.std.proofs.Common.{◌≡◌, [], drop}
use Rattle.gt_scope.specs.Meanings.{as_tag}
use Rattle.gt_scope.specs.Tables.{values_from}
use Rattle.gt_scope.proofs.scope.tags.Given as goal

abbrev pub invariant-loop-declaration : goal.invariant-loop-declaration
invariant-loop-declaration l = values_from as_tag l.made (drop l.declaration-index l.declarations) ≡ values_from as_tag [] l.declarations
