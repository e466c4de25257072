use Rattle.std.proofs.Common.{◌≡◌, ◌*◌, ◌≤◌}
use Rattle.gt_bits.proofs.CountLemmas.{count_below}
use Rattle.gt_bits.proofs.sets.count.Given as goal

abbrev pub invariant-words : goal.invariant-words
invariant-words l = (l.total ≡ count_below l.words (64 * l.word-index)) × (l.total ≤ 64 * l.word-index)
