use Rattle.std.proofs.Common.{arith}
use Rattle.stand_table.proofs.LeafBits.{agree-more}
use Rattle.stand_table.proofs.standing.byte_stands.Goals as goal

pub loop-k-preserved : goal.loop-k-preserved
loop-k-preserved c = agree-more c.args.leaves.now c.args.place c.args.byte c.loop-k.k (let off = c.if-bit_of-set.false in let left = c.bit_of.ensures in let right = c.is_set-set.ensures in grind (arith)) c.loop-k.invariant
