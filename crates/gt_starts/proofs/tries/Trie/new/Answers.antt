use Rattle.gt_starts.proofs.TrieLemmas.{trie-none}
use Rattle.gt_starts.proofs.tries.Trie.new.Goals as goal

pub invariant_of-result : goal.invariant_of-result
invariant_of-result c = trie-none _ _ c.new.ensures.empty c.new-2.ensures.empty
