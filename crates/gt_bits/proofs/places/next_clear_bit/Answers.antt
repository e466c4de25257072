use Rattle.std.proofs.Common.{rules}
use Rattle.gt_bits.proofs.WordLemmas.{IsNextClearBit-from_not}
use Rattle.gt_bits.proofs.places.next_clear_bit.Goals as goal

pub returns : goal.returns
returns c = IsNextClearBit-from_not c.args.word (search rules) c.args.from c.next_bit.result c.next_bit.ensures
