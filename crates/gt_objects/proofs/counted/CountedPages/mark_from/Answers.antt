use Rattle.std.proofs.Common.{◌≡◌, sym, subst, [], ◌∷◌}
use Rattle.gt_mark.specs.Reached.{Walks, CanMark}
use Rattle.gt_mark.specs.Rounds.{AreRounds}
use Rattle.gt_objects.specs.Totals.{AreTotals}
use Rattle.gt_objects.proofs.Marking.{blocks_after}
use Rattle.gt_objects.proofs.counted.CountedPages.mark_from.Goals as goal

pub invariant_of-self : goal.invariant_of-self
invariant_of-self c =
    let r = c.requires.ready in
    let can = subst (λ p. CanMark c.args.tables.now c.args.space.now r.0 p.slots (c.args.addr ∷ [])) (sym c.self.view_is) r.2 in
    let m = c.mark_from.ensures.marked r.0 r.1 can in
    subst (AreTotals c.self.inside.totals) (sym (blocks_after c.args.tables.now c.args.space.now r.0 (c.args.addr ∷ []) c.self.inside.pages c.mark_from.new.pages m)) c.self.invariant

pub returns-clause-rounds : goal.returns-clause-rounds
returns-clause-rounds c =
    subst (λ p. (walks : Walks) → walks c.args.addr ≡ record { walk = c.args.walk; count = c.args.count } → CanMark c.args.tables.now c.args.space.now walks p.slots (c.args.addr ∷ [])
    → AreRounds c.args.tables.now c.args.space.now walks (c.args.addr ∷ []) p.slots c.mark_from.new.pages.slots c.mark_from.result) c.self.view_is c.mark_from.ensures.rounds
