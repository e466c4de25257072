use Rattle.stand_table.proofs.LeafLists.{BytesSoFar}
use Rattle.stand_table.proofs.walking.byte_leaves.Given as goal

abbrev pub invariant-loop-byte : goal.invariant-loop-byte
invariant-loop-byte l = BytesSoFar l.at l.bytes l.byte-index l.begin l.leaves.items
