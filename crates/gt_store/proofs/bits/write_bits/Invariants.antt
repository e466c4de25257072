use Rattle.gt_store.specs.Writing.{Writes}
use Rattle.gt_store.proofs.bits.write_bits.Given as goal

abbrev pub invariant-loop-i : goal.invariant-loop-i
invariant-loop-i l = Writes l.at l.i l.bits l.initial.space l.space
