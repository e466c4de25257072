use Rattle.std.proofs.Common.{◌+◌, ◌*◌}
use Rattle.gt_types.specs.declared.program.Field.{Field}
use Rattle.gt_assign.specs.Pasts.{Nothing, past_of}
use Rattle.gt_assign.specs.Turning.{made}
use Rattle.gt_assign.proofs.Rows.{FieldsSoFar, ElementsSoFar}
use Rattle.gt_assign.proofs.zeros.+zeros.Given as goal

abbrev pub decreases-zero : goal.decreases-zero
decreases-zero l = 6 * l.depth

abbrev pub decreases-zero_node : goal.decreases-zero_node
decreases-zero_node l = 6 * l.depth + 3

abbrev pub decreases-zero_layer : goal.decreases-zero_layer
decreases-zero_layer l = 6 * l.depth + 4

abbrev pub decreases-zero_tail : goal.decreases-zero_tail
decreases-zero_tail l = 6 * l.depth + 2

abbrev pub decreases-zero_union : goal.decreases-zero_union
decreases-zero_union l = 6 * l.depth + 2

abbrev pub decreases-zero_member : goal.decreases-zero_member
decreases-zero_member l = 6 * l.depth + 1

abbrev pub decreases-zero_rest : goal.decreases-zero_rest
decreases-zero_rest l = 6 * l.depth + 1

abbrev pub decreases-zero_fields : goal.decreases-zero_fields
decreases-zero_fields l = 6 * l.depth + 1

abbrev pub decreases-zero_struct : goal.decreases-zero_struct
decreases-zero_struct l = 6 * l.depth + 2

abbrev pub decreases-zero_row : goal.decreases-zero_row
decreases-zero_row l = 6 * l.depth + 1

abbrev pub invariant-zero_fields-loop-field : goal.invariant-zero_fields-loop-field
invariant-zero_fields-loop-field l = FieldsSoFar (made l.on.program.now l.on.capacity l.depth) (past_of l.inner) Nothing (λ (f : Field). f.ty) l.fields l.field-index l.parts.items

abbrev pub invariant-zero_row-loop-i : goal.invariant-zero_row-loop-i
invariant-zero_row-loop-i l = ElementsSoFar (made l.on.program.now l.on.capacity l.depth) (past_of l.around) Nothing l.ty l.n l.i l.parts.items
