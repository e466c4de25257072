use Rattle.std.proofs.Common.{◌≡◌, ◌*◌, ◌^◌, ◌<◌}
use Rattle.gt_bits.proofs.LowestLemmas.{SoFar}
use Rattle.gt_bits.proofs.runs.first_run.Given as goal

abbrev pub invariant-words : goal.invariant-words
invariant-words l = (l.at ≡ 64 * l.word-index) × (l.at < 2 ^ 33) × SoFar l.words l.n l.at l.first
