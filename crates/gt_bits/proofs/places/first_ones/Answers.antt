use Rattle.std.proofs.Common.{arith, rules}
use Rattle.gt_bits.proofs.OnesLemmas.{IsFirstOnes-none, IsFirstOnes-from_starts}
use Rattle.gt_bits.proofs.places.first_ones.Goals as goal

pub returns-then-n-gt64 : goal.returns-then-n-gt64
returns-then-n-gt64 c = IsFirstOnes-none c.args.word c.args.n (search rules) (omega arith)

pub returns : goal.returns
returns c = IsFirstOnes-from_starts c.args.word c.args.n c.starts_of.result c.next_bit.result c.starts_of.ensures c.next_bit.ensures
