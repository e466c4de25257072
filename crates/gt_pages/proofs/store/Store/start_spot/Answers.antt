use Rattle.std.proofs.Common.{Some, ◌-◌, ◌/◌, sym, ap, ◌∙◌, inr, arith}
use Rattle.gt_bits.specs.Sets.{has}
use Rattle.gt_pages.specs.Ledger.{page_address}
use Rattle.gt_pages.specs.Parts.{entry_at, parts_of}
use Rattle.gt_pages.proofs.MarkLemmas.{start_above, start_nowhere, start_within}
use Rattle.gt_pages.proofs.store.Store.start_spot.Goals as goal

pub overflow_sub-page : goal.overflow_sub-page
overflow_sub-page c = start_above (parts_of c.args.self.now) c.args.addr c.requires.kept c.requires.start

pub get-requires : goal.get-requires
get-requires c =
    let within = start_within (parts_of c.args.self.now) c.args.addr c.requires.kept c.requires.start in
    omega (arith, within, c.requires.kept.table)

pub unreachable-requires : goal.unreachable-requires
unreachable-requires c = start_nowhere (parts_of c.args.self.now) c.args.addr c.requires.kept c.requires.start (inr (inr (sym c.get.ensures ∙ c.in-None.is)))

pub spot_in-requires-clause-above : goal.spot_in-requires-clause-above
spot_in-requires-clause-above c =
    let above = start_above (parts_of c.args.self.now) c.args.addr c.requires.kept c.requires.start in
    let leads = c.requires.kept.leads _ c.in-Some.first (sym c.get.ensures ∙ c.in-Some.is) in
    let low = leads.1 in
    omega (arith, low, above)

pub returns : goal.returns
returns c =
    let above = start_above (parts_of c.args.self.now) c.args.addr c.requires.kept c.requires.start in
    let leads = c.requires.kept.leads _ c.in-Some.first (sym c.get.ensures ∙ c.in-Some.is) in
    let low = leads.1 in
    record {
      starts = ap (λ page. has (parts_of c.args.self.now).starts page) c.spot_in.ensures.page ∙ leads.0;
      leads = sym c.get.ensures ∙ (c.in-Some.is ∙ ap Some (sym c.spot_in.ensures.page));
      above = rw c.spot_in.ensures.page (omega (arith, low, above));
      place = c.spot_in.ensures.place ∙ ap (λ page. (c.args.addr - page_address page) / (entry_at c.args.self.now.entries.items page).size) (sym c.spot_in.ensures.page);
    }
