use Rattle.std.proofs.Common.{ℕ, List, sym, subst}
use Rattle.std.specs.Prelude.{◌↔◌}
use Rattle.gt_sets.specs.Sets.{IsIn}
use Rattle.gt_leaf.specs.Seeking.{IsContainer}
use Rattle.gt_leaf.proofs.BeginSets.{set-containers}
use Rattle.gt_leaf.proofs.begins.containers_of.Goals as goal

pub returns : goal.returns
returns c = record {
  containers = subst (λ (words : List ℕ). (i : ℕ) → IsIn words i ↔ IsContainer c.args.program.now c.args.node i) (sym c.in_ok-new.ensures.ok)
      (set-containers c.args.program.now c.args.containers.now c.args.node c.in_ok-set.set c.of.result.now c.requires.containers c.of.ensures.containers c.in_ok-set.ensures.these);
}
