use Rattle.std.proofs.Common.{ℕ, List, get_or, sym, subst}
use Rattle.gt_paths.specs.Ancestors.{AreAncestors}
use Rattle.gt_paths.proofs.Ancestors.{all_above, one_above}
use Rattle.gt_paths.proofs.outers.+ancestors_of.Goals as goal

-- one more container
pub loop-outer-preserved : goal.loop-outer-preserved
loop-outer-preserved t c =
    let outer = get_or c.of-outer-items.result.now c.loop-outer.outer-index 0 in (
      one_above c.args.containers.now c.args.node c.of-outer-items.result.now c.loop-outer.outer-index 0 c.loop-outer.found c.insert_all.new.self c.deref-in-loop-outer.result.now c.loop-outer-test.true
          (subst (λ (set : List ℕ). AreAncestors c.args.containers.now outer set) (sym c.deref-in-loop-outer.ensures) c.in_ok-above.ensures.ancestors) c.insert_all.ensures.added c.loop-outer.invariant.0,
      c.in_ok-above.ensures.told,
    )

-- all were taken
pub returns-clause-ancestors : goal.returns-clause-ancestors
returns-clause-ancestors t c =
    subst (λ (set : List ℕ). AreAncestors c.args.containers.now c.args.node set) (sym c.in_ok-set.ensures.ok)
    (all_above c.args.containers.now c.args.node c.of-outer-items.result.now c.loop-outer.outer-index c.loop-outer.found c.loop-outer-test.false c.of-outer-items.ensures.containers c.loop-outer.invariant.0)

pub returns-clause-told : goal.returns-clause-told
returns-clause-told t c =
    c.in_ok-remember.ensures.told c.args.containers.now c.loop-outer.invariant.1
    (subst (λ (set : List ℕ). AreAncestors c.args.containers.now c.args.node set) (sym c.in_ok-set.ensures.ok)
    (all_above c.args.containers.now c.args.node c.of-outer-items.result.now c.loop-outer.outer-index c.loop-outer.found c.loop-outer-test.false c.of-outer-items.ensures.containers c.loop-outer.invariant.0))
