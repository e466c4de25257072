use Rattle.std.proofs.Common.{◌+◌, refl, inr, arith}
use Rattle.gt_pages.specs.Ledger.{page_of}
use Rattle.gt_pages.specs.Parts.{parts_of}
use Rattle.gt_pages.proofs.NextLemmas.{above_next, none_past}
use Rattle.gt_pages.proofs.store.Store.first_above.Goals as goal

pub returns-then-page-self-clause-none : goal.returns-then-page-self-clause-none
returns-then-page-self-clause-none c =
    let high = c.if-after-lt-HEAP_START.false in
    none_past (parts_of c.args.self.now) c.args.after c.requires.kept c.requires.nowhere (page_of c.args.after + 1) (inr (omega (arith, high), refl))
    (omega (arith, c.if-page-self.true))

pub returns-clause-above : goal.returns-clause-above
returns-clause-above c =
    let high = c.if-after-lt-HEAP_START.false in
    (above_next (parts_of c.args.self.now) c.args.after c.requires.kept c.requires.nowhere (page_of c.args.after + 1) (inr (omega (arith, high), refl))
    c.next_spot-2.result c.next_spot-2.ensures).0

pub returns-clause-none : goal.returns-clause-none
returns-clause-none c =
    let high = c.if-after-lt-HEAP_START.false in
    (above_next (parts_of c.args.self.now) c.args.after c.requires.kept c.requires.nowhere (page_of c.args.after + 1) (inr (omega (arith, high), refl))
    c.next_spot-2.result c.next_spot-2.ensures).1
