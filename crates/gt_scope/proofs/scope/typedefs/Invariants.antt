use Rattle.std.proofs.Common.{◌≡◌, [], drop}
use Rattle.gt_scope.specs.Meanings.{as_typedef}
use Rattle.gt_scope.specs.Repeats.{AreFirsts}
use Rattle.gt_scope.specs.Tables.{values_from}
use Rattle.gt_scope.proofs.scope.typedefs.Given as goal

abbrev pub invariant-loop-place : goal.invariant-loop-place
invariant-loop-place l =
    record {
      table : values_from as_typedef l.table (drop l.place l.declarations) ≡ values_from as_typedef [] l.declarations;
      firsts : AreFirsts l.declarations l.table l.firsts.items;
    }
