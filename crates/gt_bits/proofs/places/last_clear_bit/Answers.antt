use Rattle.std.proofs.Common.{arith, rules}
use Rattle.gt_bits.proofs.OnesLemmas.{IsLastClearBit-none, IsLastClearBit-found}
use Rattle.gt_bits.proofs.places.last_clear_bit.Goals as goal

pub returns-then-clear-eq0 : goal.returns-then-clear-eq0
returns-then-clear-eq0 c = IsLastClearBit-none c.args.word (search rules) (search rules)

pub returns : goal.returns
returns c = IsLastClearBit-found c.args.word (search rules) (omega arith)
