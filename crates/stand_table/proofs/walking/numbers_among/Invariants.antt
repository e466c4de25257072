use Rattle.stand_table.proofs.LeafLists.{NumbersSoFar}
use Rattle.stand_table.proofs.walking.numbers_among.Given as goal

abbrev pub invariant-loop-leaf : goal.invariant-loop-leaf
invariant-loop-leaf l = NumbersSoFar l.leaves l.leaf-index l.numbers.items
