use Rattle.std.proofs.Common.{rules}
use Rattle.gt_entries.proofs.Thirds.{empty_sets}
use Rattle.gt_entries.proofs.sets.Sets.renew.Goals as goal

pub returns : goal.returns
returns c = empty_sets c.args.len c.in_ok-words.words.items (search rules)
