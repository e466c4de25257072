use Rattle.std.proofs.Common.{sym, refl, ◌∙◌, arith}
use Rattle.std.proofs.lemmas.Bool.{false≢true}
use Rattle.gt_pages.specs.Parts.{parts_of}
use Rattle.gt_pages.proofs.PlacedLemmas.{run_of}
use Rattle.gt_pages.proofs.RoomLemmas.{room_by_run}
use Rattle.gt_pages.proofs.SizeLemmas.{size_bounds}
use Rattle.gt_pages.proofs.store.Store.has_room.Goals as goal

pub first_run-requires : goal.first_run-requires
first_run-requires c =
    let some = (size_bounds c.args.size c.requires.listed).0 in
    let is = c.pages_of.ensures in
    omega (arith, some, is)

pub returns : goal.returns
returns c =
    let p = parts_of c.args.self.now in
    let room = room_by_run p c.requires.kept c.args.size c.first_run.result
    (λ shared. false≢true (sym c.if-has_shared.false ∙ c.has_shared.ensures.1 shared))
    (run_of p p c.args.size c.pages_of.result c.deref.result.now c.first_run.result c.first_run.result refl c.deref.ensures.value c.pages_of.ensures refl
    c.first_run.ensures) in
    (λ e. room.0 (sym c.is_some.ensures ∙ e), λ there. c.is_some.ensures ∙ room.1 there)
