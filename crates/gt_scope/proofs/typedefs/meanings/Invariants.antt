use Rattle.gt_scope.specs.Chains.{IsMemo}
use Rattle.gt_scope.proofs.ChainLemmas.{AreFirst}
use Rattle.gt_scope.proofs.typedefs.meanings.Given as goal

abbrev pub invariant-loop-place : goal.invariant-loop-place
invariant-loop-place l =
    record {
      memo : IsMemo l.links l.memo.items;
      meant : AreFirst l.links l.meant.items l.place;
    }
