use Rattle.stand_table.proofs.LeafBits.{StandSoFar}
use Rattle.stand_table.proofs.standing.stand.Given as goal

abbrev pub invariant-loop-place : goal.invariant-loop-place
invariant-loop-place l = StandSoFar l.leaves l.bytes l.place
