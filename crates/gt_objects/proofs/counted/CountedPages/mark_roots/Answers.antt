use Rattle.std.proofs.Common.{sym, subst}
use Rattle.std.specs.Prelude.{All}
use Rattle.gt_mark.specs.Marks.{Marks}
use Rattle.gt_mark.specs.Reached.{Walks, CanMark, NamesBlock, root_edges, root_targets}
use Rattle.gt_mark.specs.Rounds.{AreRounds}
use Rattle.gt_objects.specs.Totals.{AreTotals}
use Rattle.gt_objects.proofs.Marking.{blocks_after}
use Rattle.gt_objects.proofs.counted.CountedPages.mark_roots.Goals as goal

pub mark_roots-requires : goal.mark_roots-requires
mark_roots-requires c =
    let r = c.requires.ready in
    record {
      ready = (
        r.0,
        subst (λ p. All (NamesBlock p.slots r.0) (root_edges c.args.tables.now c.args.space.now)) (sym c.self.view_is) r.1,
        subst (λ p. CanMark c.args.tables.now c.args.space.now r.0 p.slots (root_targets c.args.tables.now c.args.space.now)) (sym c.self.view_is) r.2,
      );
    }

pub invariant_of-self : goal.invariant_of-self
invariant_of-self c =
    let r = c.requires.ready in
    let named = subst (λ p. All (NamesBlock p.slots r.0) (root_edges c.args.tables.now c.args.space.now)) (sym c.self.view_is) r.1 in
    let can = subst (λ p. CanMark c.args.tables.now c.args.space.now r.0 p.slots (root_targets c.args.tables.now c.args.space.now)) (sym c.self.view_is) r.2 in
    let m = c.mark_roots.ensures.marked r.0 named can in
    subst (AreTotals c.self.inside.totals)
    (sym (blocks_after c.args.tables.now c.args.space.now r.0 (root_targets c.args.tables.now c.args.space.now) c.self.inside.pages c.mark_roots.new.pages m)) c.self.invariant

pub returns-clause-marked : goal.returns-clause-marked
returns-clause-marked c =
    subst (λ p. (walks : Walks) → All (NamesBlock p.slots walks) (root_edges c.args.tables.now c.args.space.now) → CanMark c.args.tables.now c.args.space.now walks p.slots (root_targets c.args.tables.now c.args.space.now)
    → Marks c.args.tables.now c.args.space.now walks (root_targets c.args.tables.now c.args.space.now) p c.mark_roots.new.pages) c.self.view_is c.mark_roots.ensures.marked

pub returns-clause-rounds : goal.returns-clause-rounds
returns-clause-rounds c =
    subst (λ p. (walks : Walks) → All (NamesBlock p.slots walks) (root_edges c.args.tables.now c.args.space.now) → CanMark c.args.tables.now c.args.space.now walks p.slots (root_targets c.args.tables.now c.args.space.now)
    → AreRounds c.args.tables.now c.args.space.now walks (root_targets c.args.tables.now c.args.space.now) p.slots c.mark_roots.new.pages.slots c.mark_roots.result) c.self.view_is c.mark_roots.ensures.rounds
