use Rattle.gt_paths.specs.declared.containers.Containers.{Containers}
use Rattle.gt_paths.specs.Ancestors.{TellAncestors}
use Rattle.gt_paths.proofs.outers.empty_memo.Given as goal

abbrev pub invariant-loop : goal.invariant-loop
invariant-loop l = (containers : Containers) → TellAncestors containers l.known.items
