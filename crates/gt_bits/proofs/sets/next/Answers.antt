use Rattle.std.proofs.Common.{rules}
use Rattle.gt_bits.proofs.SetLemmas.{IsNext-from_below}
use Rattle.gt_bits.proofs.sets.next.Goals as goal

pub returns : goal.returns
returns c = IsNext-from_below c.args.words.now c.args.from c.next_below.result (search rules)
