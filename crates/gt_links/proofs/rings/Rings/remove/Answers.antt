use Rattle.std.proofs.Common.{sym, subst}
use Rattle.gt_links.specs.declared.rings.Entry.{Entry}
use Rattle.gt_links.specs.declared.rings.Neighbour.TheVariants.{Node}
use Rattle.gt_links.specs.Rings.{IsPlace}
use Rattle.gt_links.proofs.RingLemmas.{Relinks-from_writes, Removes-from_relinks}
use Rattle.gt_links.proofs.rings.Rings.remove.Goals as goal

pub splice-requires-clause-first : goal.splice-requires-clause-first
splice-requires-clause-first c =
    subst (λ (e : Entry). IsPlace c.args.self.now e.previous) (sym c.entry-before.ensures) (c.requires.agree.previous_leads (Node c.args.node) c.requires.node)

pub returns : goal.returns
returns c =
    let r = c.requires in
    let spliced = rw c.entry-before.ensures at c.splice.ensures.spliced in
    Removes-from_relinks r.agree r.node (Relinks-from_writes (r.agree.previous_leads (Node c.args.node) r.node) r.node c.splice.ensures.agree spliced c.set_list.ensures)
