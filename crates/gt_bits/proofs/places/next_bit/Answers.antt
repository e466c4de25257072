use Rattle.std.proofs.Common.{arith, rules}
use Rattle.gt_bits.proofs.WordLemmas.{IsNextBit-none, IsNextBit-found}
use Rattle.gt_bits.proofs.places.next_bit.Goals as goal

pub returns-then-rest-eq0 : goal.returns-then-rest-eq0
returns-then-rest-eq0 c = IsNextBit-none c.args.word c.args.from (search rules)

pub returns : goal.returns
returns c = IsNextBit-found c.args.word c.args.from (omega arith) (search rules)
