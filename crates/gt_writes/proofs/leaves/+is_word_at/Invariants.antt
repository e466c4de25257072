use Rattle.std.proofs.Common.{length}
use Rattle.gt_writes.proofs.leaves.+is_word_at.Given as goal

abbrev pub decreases-is_word_at : goal.decreases-is_word_at
decreases-is_word_at l = length l.path.now
