use Rattle.gt_sets.proofs.SetLemmas.{AreJoined}
use Rattle.gt_sets.proofs.sets.join.Given as goal

abbrev pub invariant-loop-k : goal.invariant-loop-k
invariant-loop-k l = AreJoined l.fn.words l.others l.words l.k
