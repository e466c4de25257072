use Rattle.std.proofs.Common.{◌∙◌}
use Rattle.gt_held.proofs.TailLemmas.{last-elements}
use Rattle.gt_held.proofs.tails.ends_in_tail.Goals as goal

pub returns-in-len1-up : goal.returns-in-len1-up
returns-in-len1-up c = c.has_length.ensures ∙ last-elements c.args.fields.now c.last-item.result c.in-len1-up.len_at_least c.last-item.is
