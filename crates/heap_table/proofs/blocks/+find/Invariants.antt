use Rattle.std.proofs.Common.{length}
use Rattle.heap_table.proofs.blocks.+find.Given as goal

abbrev pub decreases-find : goal.decreases-find
decreases-find l = length l.objects.now
