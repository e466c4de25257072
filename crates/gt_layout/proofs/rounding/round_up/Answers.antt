use Rattle.gt_layout.proofs.Multiples.{least_multiple}
use Rattle.gt_layout.proofs.rounding.round_up.Goals as goal

pub returns-clause-least : goal.returns-clause-least
returns-clause-least c other after multiple = least_multiple c.args.n c.args.to other c.requires.some after multiple
