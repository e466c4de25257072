use Rattle.stand_table.proofs.LeafBits.{BitsAgree}
use Rattle.stand_table.proofs.standing.byte_stands.Given as goal

abbrev pub invariant-loop-k : goal.invariant-loop-k
invariant-loop-k l = BitsAgree l.leaves l.place l.byte l.k
