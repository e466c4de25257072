use Rattle.std.proofs.Common.{◌≡◌, ◌+◌, ◌*◌, not, Some, ap, sym, ◌∙◌, arith}
use Rattle.std.proofs.lemmas.Bool.{not-true, not-false}
use Rattle.gt_entries.specs.Cells.{cell_at, is_free}
use Rattle.gt_pages.specs.Ledger.{page_address}
use Rattle.gt_pages.specs.Parts.{entry_at, parts_of}
use Rattle.gt_pages.proofs.WhereLemmas.{block_free, block_used, entry_read, place_small, used_place}
use Rattle.gt_pages.proofs.store.Store.block_at.Goals as goal

pub returns-then-not-is_used : goal.returns-then-not-is_used
returns-then-not-is_used c =
    let read : c.index-entry.result.now ≡ entry_at c.args.self.now.entries.items c.args.spot.page =
    entry_read c.args.self.now.entries.items c.args.spot.page c.index-entry.result.now (let low = c.requires.kept.starts c.args.spot.page c.requires.starts in omega (arith, low, c.requires.kept.entries)) c.index-entry.ensures in
    let free = not-false (is_free (cell_at (entry_at c.args.self.now.entries.items c.args.spot.page).places c.args.spot.place))
    (ap (λ e. not (is_free (cell_at e.places c.args.spot.place))) (sym read) ∙ (sym c.is_used.ensures.used ∙ c.if-not-is_used.true)) in
    sym (block_free (page_address c.args.spot.page) (entry_at c.args.self.now.entries.items c.args.spot.page).size
    (cell_at (entry_at c.args.self.now.entries.items c.args.spot.page).places c.args.spot.place) c.args.spot.place free)

pub place_address-requires : goal.place_address-requires
place_address-requires c =
    let read : c.index-entry.result.now ≡ entry_at c.args.self.now.entries.items c.args.spot.page =
    entry_read c.args.self.now.entries.items c.args.spot.page c.index-entry.result.now (let low = c.requires.kept.starts c.args.spot.page c.requires.starts in omega (arith, low, c.requires.kept.entries)) c.index-entry.ensures in
    let used = not-true (is_free (cell_at (entry_at c.args.self.now.entries.items c.args.spot.page).places c.args.spot.place)) (ap (λ e. not (is_free (cell_at e.places c.args.spot.place))) (sym read) ∙ (sym c.is_used.ensures.used ∙ c.if-not-is_used.false)) in
    let low = used_place (entry_at c.args.self.now.entries.items c.args.spot.page).places c.args.spot.place used in
    rw (c.bytes-size.ensures, read) (place_small (parts_of c.args.self.now) c.args.spot.page c.args.spot.place c.requires.kept c.requires.starts low)

pub returns : goal.returns
returns c =
    let read : c.index-entry.result.now ≡ entry_at c.args.self.now.entries.items c.args.spot.page =
    entry_read c.args.self.now.entries.items c.args.spot.page c.index-entry.result.now (let low = c.requires.kept.starts c.args.spot.page c.requires.starts in omega (arith, low, c.requires.kept.entries)) c.index-entry.ensures in
    let used = not-true (is_free (cell_at (entry_at c.args.self.now.entries.items c.args.spot.page).places c.args.spot.place)) (ap (λ e. not (is_free (cell_at e.places c.args.spot.place))) (sym read) ∙ (sym c.is_used.ensures.used ∙ c.if-not-is_used.false)) in
    ap (λ a. Some (a, c.bytes-size.result)) c.place_address.ensures
    ∙ ap (λ n. Some (page_address c.args.spot.page + n * c.args.spot.place, n)) (c.bytes-size.ensures ∙ ap (λ e. e.size) read)
    ∙ sym (block_used (page_address c.args.spot.page) (entry_at c.args.self.now.entries.items c.args.spot.page).size
    (cell_at (entry_at c.args.self.now.entries.items c.args.spot.page).places c.args.spot.place) c.args.spot.place used)
