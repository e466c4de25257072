use Rattle.gt_links.proofs.RingLemmas.{Relinks-from_writes, Inserts-from_relinks}
use Rattle.gt_links.proofs.rings.Rings.insert_after.Goals as goal

pub returns : goal.returns
returns c =
    let r = c.requires in
    Inserts-from_relinks r.alone (Relinks-from_writes r.before r.node c.splice.ensures.agree c.splice.ensures.spliced c.set_list.ensures)
