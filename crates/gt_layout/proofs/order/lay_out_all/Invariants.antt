use Rattle.gt_layout.proofs.Laying.{AreLaidBelow}
use Rattle.gt_layout.proofs.order.lay_out_all.Given as goal

abbrev pub invariant-loop-place : goal.invariant-loop-place
invariant-loop-place l = AreLaidBelow l.program l.known.items l.place
