use Rattle.std.proofs.Common.{◌+◌, ◌*◌, length}
use Rattle.gt_tables.specs.Naming.{IsSoFar}
use Rattle.gt_tables.proofs.naming.+readers.Given as goal

abbrev pub decreases-reads : goal.decreases-reads
decreases-reads l = 2 * l.depth + 1

abbrev pub decreases-held_reads : goal.decreases-held_reads
decreases-held_reads l = 2 * l.depth

abbrev pub invariant-reads-loop-field : goal.invariant-reads-loop-field
invariant-reads-loop-field l = IsSoFar l.program l.initial.found l.field-items l.field-index l.found l.known.items (length l.fn.known.items)
