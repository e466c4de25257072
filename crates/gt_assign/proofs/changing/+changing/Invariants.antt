use Rattle.std.proofs.Common.{◌+◌, ◌*◌, map}
use Rattle.gt_types.specs.declared.program.Field.{Field}
use Rattle.gt_value.specs.Values.{trees, tree_of}
use Rattle.gt_assign.specs.Pasts.{past_of}
use Rattle.gt_assign.specs.Turning.{made}
use Rattle.gt_assign.proofs.Decided.{SoFar}
use Rattle.gt_assign.proofs.PartFields.{fields_from}
use Rattle.gt_assign.proofs.PartElements.{elements_from}
use Rattle.gt_assign.proofs.changing.+changing.Given as goal

abbrev pub decreases-change : goal.decreases-change
decreases-change l = 8 * l.depth

abbrev pub decreases-layer_change : goal.decreases-layer_change
decreases-layer_change l = 8 * l.depth + 7

abbrev pub decreases-node_change : goal.decreases-node_change
decreases-node_change l = 8 * l.depth + 6

abbrev pub decreases-tail_change : goal.decreases-tail_change
decreases-tail_change l = 8 * l.depth + 6

abbrev pub decreases-struct_change : goal.decreases-struct_change
decreases-struct_change l = 8 * l.depth + 5

abbrev pub decreases-row_change : goal.decreases-row_change
decreases-row_change l = 8 * l.depth + 5

abbrev pub decreases-union_change : goal.decreases-union_change
decreases-union_change l = 8 * l.depth + 5

abbrev pub decreases-place_change : goal.decreases-place_change
decreases-place_change l = 8 * l.depth + 4

abbrev pub decreases-member_change : goal.decreases-member_change
decreases-member_change l = 8 * l.depth + 3

abbrev pub decreases-fields_change : goal.decreases-fields_change
decreases-fields_change l = 8 * l.depth + 1

abbrev pub decreases-elements_change : goal.decreases-elements_change
decreases-elements_change l = 8 * l.depth + 2

abbrev pub decreases-element_change : goal.decreases-element_change
decreases-element_change l = 8 * l.depth + 1

abbrev pub invariant-fields_change-loop-i : goal.invariant-fields_change-loop-i
invariant-fields_change-loop-i l = SoFar (fields_from (made l.on.program.now l.on.capacity l.depth) (past_of l.inner) (λ (f : Field). f.ty) l.fields l.parts) (trees (map tree_of l.parts)) l.i l.all

abbrev pub invariant-elements_change-loop-i : goal.invariant-elements_change-loop-i
invariant-elements_change-loop-i l = SoFar (elements_from (made l.on.program.now l.on.capacity l.depth) (past_of l.around) l.ty l.parts l.n) (trees (map tree_of l.parts)) l.i l.all
