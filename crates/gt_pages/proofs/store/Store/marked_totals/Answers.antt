use Rattle.std.proofs.Common.{subst, sym, arith}
use Rattle.std.specs.Prelude.{Contains}
use Rattle.gt_pages.specs.Ledger.{sizes}
use Rattle.gt_pages.specs.Parts.{parts_of}
use Rattle.gt_pages.proofs.CountLemmas.{counted_all, counted_none, counted_step, marked_to, room}
use Rattle.gt_pages.proofs.store.Store.marked_totals.Goals as goal

pub entries-init : goal.entries-init
entries-init c = counted_none (parts_of c.args.self.now) c.none-totals.result c.none-totals.ensures

pub returns-in-None : goal.returns-in-None
returns-in-None c =
    counted_all (parts_of c.args.self.now) c.entries.from c.entries.totals c.entries.invariant c.in-None.ensures.none

pub marked_in-size-requires : goal.marked_in-size-requires
marked_in-size-requires c =
    let low = c.requires.starts c.in-Some.page c.in-Some.ensures.held in
    omega (arith, low, c.requires.entries)

pub add-requires-clause-listed : goal.add-requires-clause-listed
add-requires-clause-listed c =
    subst (Contains sizes) (sym c.marked_in-size.ensures.size) (c.requires.in_use c.in-Some.page c.in-Some.ensures.held).listed

pub add-requires-clause-room : goal.add-requires-clause-room
add-requires-clause-room c =
    let fits = room (parts_of c.args.self.now) c.entries.from c.in-Some.page c.marked_in-size.result.0 c.marked_in-size.result.1 c.requires c.in-Some.ensures.reached c.in-Some.ensures.held c.marked_in-size.ensures.size c.marked_in-size.ensures.count c.entries.totals c.entries.invariant in
    (marked_to (parts_of c.args.self.now) c.entries.from, c.entries.invariant.counted, fits.0, fits.1)

pub entries-preserved : goal.entries-preserved
entries-preserved c =
    counted_step (parts_of c.args.self.now) c.entries.from c.in-Some.page c.marked_in-size.result.0 c.marked_in-size.result.1 c.requires c.in-Some.ensures.reached c.in-Some.ensures.held c.marked_in-size.ensures.size c.marked_in-size.ensures.count c.entries.totals c.entries.invariant
    c.in-Some.ensures.least c.add.new.self c.add.ensures.added
