use Rattle.std.proofs.Common.{refl, ◌∙◌}
use Rattle.gt_entries.specs.Cells as cells
use Rattle.gt_pages.specs.Slots as slots
use Rattle.gt_pages.specs.Parts.{parts_of}
use Rattle.gt_pages.proofs.NextLemmas.{next_found, next_none, none_above, skips_step}
use Rattle.gt_pages.proofs.store.Store.next_mark.Goals as goal

pub returns-in_err-from : goal.returns-in_err-from
returns-in_err-from c =
    c.from_residual.ensures
    ∙ none_above slots.is_marked cells.is_marked (λ _. refl) refl (parts_of c.args.self.now) c.args.after c.requires c.in_err-from.ensures.none

pub returns-in-Some : goal.returns-in-Some
returns-in-Some c =
    c.tell.ensures
    ∙ next_found slots.is_marked cells.is_marked (λ _. refl) refl (parts_of c.args.self.now) c.args.after c.requires c.entries.from c.in-Some.spot
    c.entries.invariant c.in-Some.ensures

pub returns-in-None-next_spot : goal.returns-in-None-next_spot
returns-in-None-next_spot c =
    next_none slots.is_marked cells.is_marked (λ _. refl) refl (parts_of c.args.self.now) c.args.after c.requires c.entries.from
    c.entries.invariant c.in-None.ensures c.in-None-next_spot.ensures

pub entries-preserved : goal.entries-preserved
entries-preserved c =
    skips_step cells.is_marked (parts_of c.args.self.now) c.args.after c.entries.from c.in-Some-next_spot.next
    c.entries.invariant c.in-None.ensures c.in-Some-next_spot.ensures
