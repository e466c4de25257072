use Rattle.gt_split.proofs.Splits.{place_is}
use Rattle.gt_split.proofs.parts.place_of.Goals as goal

pub returns : goal.returns
returns c = place_is c.args.byte c.args.text.now c.memchr.result c.memchr.ensures
