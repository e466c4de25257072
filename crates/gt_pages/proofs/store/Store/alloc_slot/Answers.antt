use Rattle.std.proofs.Common.{◌≡◌, [], ap, subst, inr, ◌∙◌, arith}
use Rattle.gt_links.specs.Lists.{with_nodes}
use Rattle.gt_pages.specs.declared.pages.TheConstants.{CACHED}
use Rattle.gt_pages.specs.Slots.{slot_at, with_slot}
use Rattle.gt_pages.specs.Contents.{KeepsPages}
use Rattle.gt_pages.specs.Parts.{contents_of, parts_of}
use Rattle.gt_pages.proofs.CachedLemmas.{contents_emptied}
use Rattle.gt_pages.proofs.FreeLemmas.{run_free}
use Rattle.gt_pages.proofs.PlacedLemmas.{no_room, placed_open, placed_shared, run_of}
use Rattle.gt_pages.proofs.SizeLemmas.{size_bounds}
use Rattle.gt_pages.proofs.UsedLemmas.{uses_opened, uses_shared}
use Rattle.gt_pages.specs.Ledger.{pages_of}
use Rattle.gt_pages.proofs.store.Store.alloc_slot.Goals as goal

pub returns-in-Some-clause-placed : goal.returns-in-Some-clause-placed
returns-in-Some-clause-placed c =
    (placed_shared (parts_of c.args.self.now) (parts_of c.share.new.self) c.args.size c.in-Some.addr c.in-Some.ensures.kept c.in-Some.ensures.pages
    c.in-Some.ensures.shares c.in-Some.ensures.added).place

pub first_run-requires : goal.first_run-requires
first_run-requires c =
    let some = (size_bounds c.args.size c.requires.listed).0 in
    let is = c.pages_of.ensures in
    omega (arith, some, is)

pub returns-in_default-first_run-clause-full : goal.returns-in_default-first_run-clause-full
returns-in_default-first_run-clause-full c = λ _.
    no_room (parts_of c.args.self.now) c.args.size c.requires.kept c.in_default.ensures.none
    (run_of (parts_of c.args.self.now) (parts_of c.share.new.self) c.args.size c.pages_of.result c.deref.result.now c.first_run.result _
    c.in_default.ensures.unchanged c.deref.ensures.value c.pages_of.ensures c.in_default-first_run.is c.first_run.ensures)

pub returns-in_default-first_run-clause-released : goal.returns-in_default-first_run-clause-released
returns-in_default-first_run-clause-released c = λ _.
    contents_emptied (parts_of c.share.new.self) (parts_of c.release_cached.new.self) c.release_cached.ensures.released c.release_cached.ensures.none
    ∙ ap (λ x. record (contents_of x) { lists = with_nodes x.lists CACHED [] }) c.in_default.ensures.unchanged

pub returns-in-Ok-clause-placed : goal.returns-in-Ok-clause-placed
returns-in-Ok-clause-placed c =
    let p = parts_of c.args.self.now in
    let new = parts_of c.open.new.self in
    (placed_open p new c.args.size c.in-Some-first_run.page c.in-Ok.addr c.requires.kept c.in-Ok.ensures.kept
    (subst (λ x. KeepsPages (contents_of x) (contents_of new)) c.in_default.ensures.unchanged c.in-Ok.ensures.pages) c.in_default.ensures.none
    (run_of p (parts_of c.share.new.self) c.args.size c.pages_of.result c.deref.result.now c.first_run.result _
    c.in_default.ensures.unchanged c.deref.ensures.value c.pages_of.ensures c.in-Some-first_run.is c.first_run.ensures)
    c.in-Ok.ensures.within
    (subst (λ x. (contents_of new).slots ≡ with_slot (contents_of x).slots (slot_at c.in-Ok.addr c.args.size)) c.in_default.ensures.unchanged c.in-Ok.ensures.added)).place

pub returns-in-Ok-clause-room : goal.returns-in-Ok-clause-room
returns-in-Ok-clause-room c =
    let p = parts_of c.args.self.now in
    let run = run_of p (parts_of c.share.new.self) c.args.size c.pages_of.result c.deref.result.now c.first_run.result _
    c.in_default.ensures.unchanged c.deref.ensures.value c.pages_of.ensures c.in-Some-first_run.is c.first_run.ensures in
    inr (c.in-Some-first_run.page, run_free p c.requires.kept c.in-Some-first_run.page (pages_of c.args.size) run.run.0 run.run.1)

pub returns-in-Err-clause-memory : goal.returns-in-Err-clause-memory
returns-in-Err-clause-memory c = λ _.
    let p = parts_of c.args.self.now in
    let run = run_of p (parts_of c.share.new.self) c.args.size c.pages_of.result c.deref.result.now c.first_run.result _
    c.in_default.ensures.unchanged c.deref.ensures.value c.pages_of.ensures c.in-Some-first_run.is c.first_run.ensures in
    inr (c.in-Some-first_run.page, run_free p c.requires.kept c.in-Some-first_run.page (pages_of c.args.size) run.run.0 run.run.1)

pub returns-in-Some-clause-cached : goal.returns-in-Some-clause-cached
returns-in-Some-clause-cached c =
    uses_shared (parts_of c.args.self.now) (parts_of c.share.new.self) c.args.size c.in-Some.addr c.in-Some.ensures.shares c.in-Some.ensures.cached

pub returns-in-Ok-clause-cached : goal.returns-in-Ok-clause-cached
returns-in-Ok-clause-cached c =
    uses_opened (parts_of c.args.self.now) (parts_of c.share.new.self) (parts_of c.open.new.self) c.args.size c.in_default.ensures.unchanged
    c.in_default.ensures.none c.in-Ok.ensures.cached
