use Rattle.std.proofs.Common.{inl, arith}
use Rattle.gt_pages.specs.Parts.{parts_of}
use Rattle.gt_pages.proofs.EmptiedLemmas.{swept_caches}
use Rattle.gt_pages.proofs.SweepLemmas.{lost_few, swept_freed, swept_slots, swept_step}
use Rattle.gt_pages.proofs.store.Store.sweep.Goals as goal

pub returns-in-None-clause-slots : goal.returns-in-None-clause-slots
returns-in-None-clause-slots c =
    swept_slots (parts_of c.args.self.now) (parts_of c.entries.self) c.entries.from c.entries.freed c.entries.invariant c.in-None.ensures.none

pub returns-in-None-clause-freed : goal.returns-in-None-clause-freed
returns-in-None-clause-freed c =
    swept_freed (parts_of c.args.self.now) (parts_of c.entries.self) c.entries.from c.entries.freed c.entries.invariant c.in-None.ensures.none

pub returns-in-None-clause-cached : goal.returns-in-None-clause-cached
returns-in-None-clause-cached c =
    swept_caches (parts_of c.args.self.now) (parts_of c.entries.self) c.entries.from c.entries.freed c.requires c.entries.invariant

pub overflow_add-freed : goal.overflow_add-freed
overflow_add-freed c =
    let p = parts_of c.entries.self in
    let few = c.entries.invariant.few c.in-Some.page c.in-Some.ensures.reached (inl c.in-Some.ensures.held) in
    let lost = lost_few p c.in-Some.page c.entries.invariant.kept c.in-Some.ensures.held in
    let is = c.sweep_entry-freed.ensures.freed in
    let ends = (c.entries.invariant.kept.in_use c.in-Some.page c.in-Some.ensures.held).in_space in
    let most = c.entries.invariant.kept.at_most in
    omega (arith, few, lost, is, ends, most)

pub entries-preserved : goal.entries-preserved
entries-preserved c =
    swept_step (parts_of c.args.self.now) (parts_of c.entries.self) (parts_of c.sweep_entry-freed.new.self) c.entries.from c.entries.freed c.in-Some.page c.sweep_entry-freed.result
    c.entries.invariant c.sweep_entry-freed.ensures.swept c.sweep_entry-freed.ensures.kept c.in-Some.ensures.reached c.in-Some.ensures.held c.in-Some.ensures.least c.sweep_entry-freed.ensures.freed
