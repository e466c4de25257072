use Rattle.gt_walk.specs.Rows.{edges_of}
use Rattle.sample_heap.specs.Named.{AllName}
use Rattle.sample_heap.proofs.Marked.{AreUpTo}
use Rattle.sample_heap.proofs.conditions.all_named.Given as goal

abbrev pub invariant-loop : goal.invariant-loop
invariant-loop l = AreUpTo (λ a walk count. AllName l.known.slots l.pages.slots (edges_of l.tables walk count l.space a)) l.known.slots l.after
