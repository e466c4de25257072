use Rattle.gt_links.proofs.RingLemmas.{Joins-from_writes}
use Rattle.gt_links.proofs.rings.Rings.join.Goals as goal

pub returns : goal.returns
returns c = Joins-from_writes c.requires.before c.requires.after c.set_next.ensures c.set_previous.ensures
