use Rattle.gt_links.proofs.RingLemmas.{Splices-from_joins, LinksAgree-from_joins}
use Rattle.gt_links.proofs.rings.Rings.splice.Goals as goal

pub returns-clause-agree : goal.returns-clause-agree
returns-clause-agree c =
    LinksAgree-from_joins c.requires.agree c.requires.first c.requires.second (rw c.entry-after_second.ensures at c.join.ensures) (rw c.entry-after_first.ensures at c.join-2.ensures)

pub returns-clause-spliced : goal.returns-clause-spliced
returns-clause-spliced c =
    Splices-from_joins c.requires.first c.requires.second (rw c.entry-after_second.ensures at c.join.ensures) (rw c.entry-after_first.ensures at c.join-2.ensures)
