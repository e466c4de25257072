use Rattle.sample_heap.specs.Named.{CanMarkEach}
use Rattle.sample_heap.proofs.heap.mark_each.Given as goal

abbrev pub invariant-loop-addr : goal.invariant-loop-addr
invariant-loop-addr l = CanMarkEach l.tables l.space l.known.slots l.pages.slots l.starts
