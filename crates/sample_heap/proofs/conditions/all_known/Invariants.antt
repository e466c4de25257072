use Rattle.sample_heap.specs.Named.{HasMarkOf}
use Rattle.sample_heap.proofs.Marked.{AreUpTo}
use Rattle.sample_heap.proofs.conditions.all_known.Given as goal

abbrev pub invariant-loop : goal.invariant-loop
invariant-loop l = AreUpTo (HasMarkOf l.known.slots) l.pages.slots l.after
