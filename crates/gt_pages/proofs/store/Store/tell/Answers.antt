use Rattle.std.proofs.Common.{◌≡◌, ap, sym, ◌∙◌, arith}
use Rattle.gt_entries.specs.Cells.{cell_at, mark_in}
use Rattle.gt_pages.specs.Parts.{entry_at, parts_of}
use Rattle.gt_pages.proofs.WhereLemmas.{entry_read, place_small, used_place}
use Rattle.gt_pages.proofs.NextLemmas.{marked_used}
use Rattle.gt_pages.proofs.store.Store.tell.Goals as goal

pub place_address-addr-requires : goal.place_address-addr-requires
place_address-addr-requires c =
    let read : c.index-entry.result.now ≡ entry_at c.args.self.now.entries.items c.args.spot.page =
    entry_read c.args.self.now.entries.items c.args.spot.page c.index-entry.result.now (let low = c.requires.kept.starts c.args.spot.page c.requires.starts in omega (arith, low, c.requires.kept.entries)) c.index-entry.ensures in
    let cells = (entry_at c.args.self.now.entries.items c.args.spot.page).places in
    let used = marked_used (cell_at cells c.args.spot.place) c.in_ok-mark.mark
    (ap (λ e. mark_in (cell_at e.places c.args.spot.place)) (sym read) ∙ (sym c.mark_of.ensures.mark ∙ c.in_ok-mark.was)) in
    let low = used_place cells c.args.spot.place used in
    rw (c.bytes.ensures, read) (place_small (parts_of c.args.self.now) c.args.spot.page c.args.spot.place c.requires.kept c.requires.starts low)
