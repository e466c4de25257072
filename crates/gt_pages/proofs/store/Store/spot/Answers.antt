use Rattle.std.proofs.Common.{sym, ◌∙◌, arith}
use Rattle.gt_pages.proofs.store.Store.spot.Goals as goal

pub spot_in-requires-clause-above : goal.spot_in-requires-clause-above
spot_in-requires-clause-above c =
    let leads = c.requires.leads _ c.in-Some.first (sym c.get.ensures ∙ c.in-Some.is) in
    let low = leads.1 in
    omega (arith, low, c.if-addr-lt-HEAP_START.false)
