use Rattle.std.proofs.Common.{ap, sym, subst, ◌∙◌, arith}
use Rattle.gt_pages.specs.Slots.{slot_at, with_slot}
use Rattle.gt_pages.specs.Places.{IsWithin}
use Rattle.gt_pages.specs.Changes.{Opens}
use Rattle.gt_pages.specs.Parts.{contents_of, parts_of}
use Rattle.gt_pages.proofs.CachedLemmas.{contents_taken, releases_then}
use Rattle.gt_pages.proofs.OpenLemmas.{at_error, free_node, opened_all, places_made}
use Rattle.gt_pages.proofs.PlaceLemmas.{place_bytes, place_within, shape}
use Rattle.gt_pages.proofs.SizeLemmas.{size_bounds}
use Rattle.gt_pages.proofs.UsedLemmas.{used_opened}
use Rattle.gt_pages.proofs.store.Store.open.Goals as goal

pub take_memory-memory-requires-clause-page : goal.take_memory-memory-requires-clause-page
take_memory-memory-requires-clause-page c =
    let some = (size_bounds c.args.size c.requires.listed).0 in
    let room = c.requires.run.0 in
    omega (arith, some, room)

pub places_of-requires : goal.places_of-requires
places_of-requires c = (size_bounds c.args.size c.requires.listed).0

pub new_places-requires-clause-some : goal.new_places-requires-clause-some
new_places-requires-clause-some c =
    let some = (shape c.args.size c.requires.listed).some in let is = c.places_of.ensures in omega (arith, some, is)

pub returns-in_err-places-clause-unchanged : goal.returns-in_err-places-clause-unchanged
returns-in_err-places-clause-unchanged c =
    at_error c.from_residual.result _
    (contents_taken (parts_of c.args.self.now) (parts_of c.take_memory-memory.new.self) c.take_memory-memory.ensures.released c.take_memory-memory.ensures.lists)

pub release_for-requires-clause-page : goal.release_for-requires-clause-page
release_for-requires-clause-page c =
    let some = (size_bounds c.args.size c.requires.listed).0 in
    let room = c.requires.run.0 in
    let same = ap (λ q. q.pages) c.take_memory-memory.ensures.released.rest in
    omega (arith, some, room, same)

pub push_entry-requires-clause-free : goal.push_entry-requires-clause-free
push_entry-requires-clause-free c =
    free_node (parts_of c.args.self.now) (parts_of c.release_for.new.self) (parts_of c.put_entry.new.self) c.args.page c.args.size
    c.release_for.ensures.kept (releases_then (parts_of c.args.self.now) (parts_of c.take_memory-memory.new.self) (parts_of c.release_for.new.self) c.take_memory-memory.ensures.released c.release_for.ensures.released) c.requires.listed c.requires.run c.release_for.ensures.own
    (ap (λ x. x.lists) c.put_entry.ensures.rest)

pub place_address-requires : goal.place_address-requires
place_address-requires c =
    let count = c.places_of.ensures in
    let low = c.in_ok-places.ensures.place in
    place_bytes c.args.size c.in_ok-places.place c.requires.listed (omega (arith, low, count))

pub returns-clause-within : goal.returns-clause-within
returns-clause-within c =
    let count = c.places_of.ensures in
    let low = c.in_ok-places.ensures.place in
    subst (λ a. IsWithin c.args.page c.args.size a) (sym c.place_address.ensures)
    (place_within c.args.page c.args.size c.in_ok-places.place c.requires.listed (omega (arith, low, count)))

pub returns-clause-kept : goal.returns-clause-kept
returns-clause-kept c =
    let count = c.places_of.ensures in
    let low = c.in_ok-places.ensures.place in
    let is = places_made c.args.size c.places_of.result c.in_ok-places.place c.in_ok-places.places count c.in_ok-places.ensures.places in
    (opened_all (parts_of c.args.self.now) (parts_of c.release_for.new.self) (parts_of c.put_entry.new.self) (parts_of c.push_entry.new.self)
    c.args.page c.args.size c.in_ok-places.place c.list_of.result c.release_for.ensures.kept (releases_then (parts_of c.args.self.now) (parts_of c.take_memory-memory.new.self) (parts_of c.release_for.new.self) c.take_memory-memory.ensures.released c.release_for.ensures.released) c.list_of.ensures.number
    c.requires.run (omega (arith, low, count)) c.release_for.ensures.own
    (subst (λ e. Opens (parts_of c.release_for.new.self) c.args.page e (parts_of c.put_entry.new.self)) is
    (subst (λ n. Opens (parts_of c.release_for.new.self) c.args.page (record { size = n; places = c.in_ok-places.places }) (parts_of c.put_entry.new.self)) c.new.ensures c.put_entry.ensures))
    c.push_entry.ensures.back c.push_entry.ensures.front).0

pub returns-clause-added : goal.returns-clause-added
returns-clause-added c =
    let count = c.places_of.ensures in
    let low = c.in_ok-places.ensures.place in
    let is = places_made c.args.size c.places_of.result c.in_ok-places.place c.in_ok-places.places count c.in_ok-places.ensures.places in
    (opened_all (parts_of c.args.self.now) (parts_of c.release_for.new.self) (parts_of c.put_entry.new.self) (parts_of c.push_entry.new.self)
    c.args.page c.args.size c.in_ok-places.place c.list_of.result c.release_for.ensures.kept (releases_then (parts_of c.args.self.now) (parts_of c.take_memory-memory.new.self) (parts_of c.release_for.new.self) c.take_memory-memory.ensures.released c.release_for.ensures.released) c.list_of.ensures.number
    c.requires.run (omega (arith, low, count)) c.release_for.ensures.own
    (subst (λ e. Opens (parts_of c.release_for.new.self) c.args.page e (parts_of c.put_entry.new.self)) is
    (subst (λ n. Opens (parts_of c.release_for.new.self) c.args.page (record { size = n; places = c.in_ok-places.places }) (parts_of c.put_entry.new.self)) c.new.ensures c.put_entry.ensures))
    c.push_entry.ensures.back c.push_entry.ensures.front).1
    ∙ ap (λ a. with_slot (contents_of (parts_of c.args.self.now)).slots (slot_at a c.args.size)) (sym c.place_address.ensures)

pub returns-clause-cached : goal.returns-clause-cached
returns-clause-cached c =
    used_opened (parts_of c.args.self.now) (parts_of c.take_memory-memory.new.self) (parts_of c.release_for.new.self) (parts_of c.put_entry.new.self)
    (parts_of c.push_entry.new.self) c.args.page c.list_of.result c.args.size c.list_of.ensures.number c.take_memory-memory.ensures.lists
    c.release_for.ensures.used (ap (λ x. x.lists) c.put_entry.ensures.rest) c.push_entry.ensures.back c.push_entry.ensures.front
