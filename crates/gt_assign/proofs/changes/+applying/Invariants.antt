use Rattle.std.proofs.Common.{◌≡◌, ◌+◌, ◌*◌, ◌≤◌, map}
use Rattle.gt_value.specs.Values.{trees, tree_of}
use Rattle.gt_assign.specs.Changes.{changed, parts_changed, all_changed}
use Rattle.gt_assign.proofs.Decided.{append, levels}
use Rattle.gt_assign.proofs.Nested.{most}
use Rattle.gt_assign.proofs.changes.+applying.Given as goal

abbrev pub decreases-Change::apply : goal.decreases-Change::apply
decreases-Change::apply l = 2 * levels l.self

abbrev pub decreases-apply_all : goal.decreases-apply_all
decreases-apply_all l = 2 * most (map levels l.changes.items) + 1

abbrev pub invariant-apply_all-loop-change : goal.invariant-apply_all-loop-change
invariant-apply_all-loop-change l =
    (append (trees (map tree_of l.parts.items)) (all_changed (map changed l.change-iterator.rest.items) (trees (map tree_of l.olds.rest.items)))
    ≡ parts_changed l.fn.kept (map changed l.fn.changes.items) (trees (map tree_of l.fn.parts.items)))
    × (most (map levels l.change-iterator.rest.items) ≤ most (map levels l.fn.changes.items))
