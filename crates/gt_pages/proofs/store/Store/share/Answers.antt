use Rattle.std.proofs.Common.{ap, sym, subst, ◌∙◌}
use Rattle.gt_pages.specs.Slots.{slot_at, with_slot}
use Rattle.gt_pages.specs.Places.{Shares}
use Rattle.gt_pages.specs.Parts.{contents_of, parts_of}
use Rattle.gt_pages.proofs.PlaceLemmas.{place_bytes}
use Rattle.gt_pages.proofs.RoomLemmas.{full_shared, none_shared}
use Rattle.gt_pages.proofs.ShareLemmas.{if_none, place_low, shared_all, shares_first}
use Rattle.gt_pages.proofs.UsedLemmas.{cached_shared}
use Rattle.gt_pages.proofs.store.Store.share.Goals as goal

pub returns-in_err-page-clause-none : goal.returns-in_err-page-clause-none
returns-in_err-page-clause-none c =
    if_none c.from_residual.result _
    (none_shared (parts_of c.args.self.now) c.requires.kept c.list_of.result c.args.size c.list_of.ensures.number (sym c.first.ensures.first ∙ c.in_err-page.was))

pub returns-in_err-place-clause-none : goal.returns-in_err-place-clause-none
returns-in_err-place-clause-none c =
    if_none c.from_residual-in_err-place.result _
    (full_shared (parts_of c.args.self.now) c.requires.kept c.list_of.result c.args.size c.list_of.ensures.number c.in_ok-page.page
    (sym c.first.ensures.first ∙ c.in_ok-page.was) c.in_err-place.ensures.full)

pub place_address-requires : goal.place_address-requires
place_address-requires c =
    place_bytes c.args.size c.in_ok-place.place c.requires.listed
    (place_low (parts_of c.args.self.now) c.in_ok-page.page c.in_ok-place.place c.list_of.result c.args.size c.requires.kept c.list_of.ensures.number
    (sym c.first.ensures.first ∙ c.in_ok-page.was) c.in_ok-place.ensures.free.0 c.in_ok-place.ensures.free.1)

pub returns-clause-shares : goal.returns-clause-shares
returns-clause-shares c =
    subst (λ a. Shares (contents_of (parts_of c.args.self.now)) c.args.size a) (sym c.place_address.ensures)
    (shares_first (parts_of c.args.self.now) c.in_ok-page.page c.in_ok-place.place c.list_of.result c.args.size c.requires.kept c.list_of.ensures.number
    (sym c.first.ensures.first ∙ c.in_ok-page.was) c.in_ok-place.ensures.free.0 c.in_ok-place.ensures.free.1 c.requires.listed)

pub returns-clause-kept : goal.returns-clause-kept
returns-clause-kept c =
    (shared_all (parts_of c.args.self.now) c.in_ok-page.page c.in_ok-place.place c.list_of.result c.args.size c.requires.kept c.list_of.ensures.number
    (sym c.first.ensures.first ∙ c.in_ok-page.was) c.in_ok-place.ensures.free.0 c.in_ok-place.ensures.free.1
    (parts_of c.take_place.new.self) (parts_of c.move_full.new.self) c.in_ok-place.ensures.taken c.move_full.ensures.full c.move_full.ensures.unchanged).0

pub returns-clause-added : goal.returns-clause-added
returns-clause-added c =
    (shared_all (parts_of c.args.self.now) c.in_ok-page.page c.in_ok-place.place c.list_of.result c.args.size c.requires.kept c.list_of.ensures.number
    (sym c.first.ensures.first ∙ c.in_ok-page.was) c.in_ok-place.ensures.free.0 c.in_ok-place.ensures.free.1
    (parts_of c.take_place.new.self) (parts_of c.move_full.new.self) c.in_ok-place.ensures.taken c.move_full.ensures.full c.move_full.ensures.unchanged).1
    ∙ ap (λ a. with_slot (contents_of (parts_of c.args.self.now)).slots (slot_at a c.args.size)) (sym c.place_address.ensures)

pub returns-clause-cached : goal.returns-clause-cached
returns-clause-cached c =
    cached_shared (parts_of c.args.self.now) (parts_of c.take_place.new.self) (parts_of c.move_full.new.self) c.in_ok-page.page c.in_ok-place.place
    c.list_of.result c.args.size c.list_of.ensures.number (sym c.first.ensures.first ∙ c.in_ok-page.was) c.in_ok-place.ensures.taken
    c.move_full.ensures.full c.move_full.ensures.unchanged
