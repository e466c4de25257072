use Rattle.std.proofs.Common.{ℕ, List, subst}
use Rattle.gt_paths.specs.Containers.{AddsNumber}
use Rattle.gt_paths.proofs.Containing.{adds}
use Rattle.gt_paths.proofs.containers.Containers.add.Goals as goal

pub returns : goal.returns
returns c = record {
  added = adds c.args.self.now c.take.new.self (record { lists = c.insert.new.self }) c.args.inner c.args.outer c.in_ok-list.list c.take.ensures.left
      (subst (λ (xs : List ℕ). AddsNumber xs c.args.outer c.in_ok-list.list) c.take.ensures.taken c.in_ok-list.ensures.added) (c.in_ok-insert.ensures.updates.0);
}
