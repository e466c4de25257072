use Rattle.std.proofs.Common.{◌≡◌, length}
use Rattle.gt_marked.specs.Types.{words_from}
use Rattle.gt_marked.proofs.combinations.more_words.Given as goal

abbrev pub invariant-loop-rest : goal.invariant-loop-rest
invariant-loop-rest l = words_from l.words l.rest ≡ words_from l.fn.words l.tokens

abbrev pub decreases-loop-rest : goal.decreases-loop-rest
decreases-loop-rest l = length l.rest
