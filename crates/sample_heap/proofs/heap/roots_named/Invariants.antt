use Rattle.std.proofs.Common.{ℕ, ◌<◌, length, get_or}
use Rattle.gt_walk.specs.Rows.{edges_of}
use Rattle.sample_heap.specs.Named.{AllName}
use Rattle.sample_heap.proofs.heap.roots_named.Given as goal

abbrev pub invariant-loop-walk : goal.invariant-loop-walk
invariant-loop-walk l = (i : ℕ) → i < l.walk-index → i < length l.walk-items → AllName l.known.slots l.pages.slots (edges_of l.tables (get_or l.walk-items i 0) 1 l.space 0)
