use Rattle.std.proofs.Common.{ap, ◌∙◌}
use Rattle.gt_entries.specs.Cells.{cell_at, mark_in}
use Rattle.gt_pages.proofs.WhereLemmas.{entry_read}
use Rattle.gt_pages.proofs.store.Store.mark_of.Goals as goal

pub returns : goal.returns
returns c =
    c.mark_of.ensures.mark
    ∙ ap (λ e. mark_in (cell_at e.places c.args.spot.place))
    (entry_read c.args.self.now.entries.items c.args.spot.page c.index-entry.result.now c.requires c.index-entry.ensures)
