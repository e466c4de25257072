use Rattle.std.proofs.Common.{◌≡◌, arith}
use Rattle.gt_pages.specs.Parts.{entry_at, parts_of}
use Rattle.gt_pages.proofs.WhereLemmas.{entry_read, entry_some}
use Rattle.gt_pages.proofs.store.Store.spot_in.Goals as goal

pub place_of-place-requires-clause-some : goal.place_of-place-requires-clause-some
place_of-place-requires-clause-some c =
    let low = c.requires.kept.starts c.args.page c.requires.starts in
    let read : c.index.result.now ≡ entry_at c.args.self.now.entries.items c.args.page =
    entry_read c.args.self.now.entries.items c.args.page c.index.result.now (omega (arith, low, c.requires.kept.entries)) c.index.ensures in
    rw read (entry_some (parts_of c.args.self.now) c.args.page c.requires.kept c.requires.starts)
