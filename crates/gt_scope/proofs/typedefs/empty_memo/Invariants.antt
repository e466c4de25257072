use Rattle.gt_scope.proofs.ChainLemmas.{AreUnknown}
use Rattle.gt_scope.proofs.typedefs.empty_memo.Given as goal

abbrev pub invariant-loop-link : goal.invariant-loop-link
invariant-loop-link l = AreUnknown l.memo.items l._link-index
