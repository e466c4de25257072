use Rattle.std.proofs.Common.{◌≡◌, ◌+◌, ◌*◌, ◌≤◌, length, map}
use Rattle.gt_tree.specs.Trees.{without_pointers}
use Rattle.gt_value.specs.declared.values.Value.{Value}
use Rattle.gt_value.specs.Values.{tree_of}
use Rattle.gt_assign.proofs.Nested.{most, depth_of}
use Rattle.gt_assign.proofs.Cleared.{cleared, deep_from}
use Rattle.gt_assign.proofs.leaves.+bare.Given as goal

abbrev pub decreases-without_pointers : goal.decreases-without_pointers
decreases-without_pointers l = 2 * depth_of l.value

abbrev pub decreases-all_without_pointers : goal.decreases-all_without_pointers
decreases-all_without_pointers l = 2 * most (map depth_of l.parts.items) + 1

abbrev pub invariant-all_without_pointers-loop-i : goal.invariant-all_without_pointers-loop-i
invariant-all_without_pointers-loop-i l =
    (cleared l.i l.parts.items ≡ map (λ (x : Value). without_pointers (tree_of x)) l.fn.parts.items)
    × (deep_from l.i l.parts.items ≤ most (map depth_of l.fn.parts.items))
    × (length l.parts.items ≡ length l.fn.parts.items)
