use Rattle.gt_leaf.proofs.BeginSets.{IsSetOf}
use Rattle.gt_leaf.proofs.begins.set_of.Given as goal

abbrev pub invariant-loop-id : goal.invariant-loop-id
invariant-loop-id l = IsSetOf l.set l.id-index l.ids
