use Rattle.std.proofs.Common.{◌≡◌, ◌+◌, ◌-◌, ◌*◌}
use Rattle.gt_expr.specs.Reading.{level_at, unary_at, tree_at, more_at}
use Rattle.gt_expr.proofs.reading.+reading.Given as goal

abbrev pub decreases-inner_line : goal.decreases-inner_line
decreases-inner_line l = 300 * l.depth

abbrev pub decreases-unary : goal.decreases-unary
decreases-unary l = 300 * l.depth + 2

abbrev pub decreases-prefix_operation : goal.decreases-prefix_operation
decreases-prefix_operation l = 300 * l.depth + 1

abbrev pub decreases-binary : goal.decreases-binary
decreases-binary l = 300 * l.depth + 3 + l.level

abbrev pub decreases-conditional : goal.decreases-conditional
decreases-conditional l = 300 * l.depth + 10

abbrev pub invariant-binary-loop : goal.invariant-binary-loop
invariant-binary-loop l =
    more_at (level_at (unary_at (tree_at l.depth)) (l.level - 1)) l.level (l.end - l.counter) l.left l.rest
    ≡ level_at (unary_at (tree_at l.depth)) l.level l.parts
