use Rattle.gt_space.specs.Range.{KeepsAddresses}
use Rattle.value_table.proofs.repeats.store_times.Given as goal

abbrev pub invariant-loop : goal.invariant-loop
invariant-loop l = KeepsAddresses l.fn.space l.space
