use Rattle.std.proofs.Common.{◌+◌, ◌*◌, map, take}
use Rattle.gt_types.specs.Shapes.{dimensions}
use Rattle.gt_tree.specs.Fits.{types_of}
use Rattle.gt_value.specs.Values.{tree_of, trees}
use Rattle.gt_value.specs.Noughts.{AreNoughts, AreElements}
use Rattle.gt_value.proofs.zeros.+zeros.Given as goal

abbrev pub decreases-zero_of : goal.decreases-zero_of
decreases-zero_of l = 16 * l.depth + (3 * dimensions l.ty.now + 1)

abbrev pub decreases-zero_elements : goal.decreases-zero_elements
decreases-zero_elements l = 16 * l.depth + (3 * dimensions l.elem.now + 2)

abbrev pub decreases-zero_fields : goal.decreases-zero_fields
decreases-zero_fields l = 16 * l.depth + 14

abbrev pub decreases-zero_structure : goal.decreases-zero_structure
decreases-zero_structure l = 16 * l.depth + 15

abbrev pub decreases-zero_union : goal.decreases-zero_union
decreases-zero_union l = 16 * l.depth + 14

abbrev pub invariant-zero_elements-loop : goal.invariant-zero_elements-loop
invariant-zero_elements-loop l = AreElements l.program l.capacity l.counter l.elem (trees (map tree_of l.parts.items))

abbrev pub invariant-zero_fields-loop-field : goal.invariant-zero_fields-loop-field
invariant-zero_fields-loop-field l = AreNoughts l.program l.capacity (types_of (take l.field-index l.fields)) (trees (map tree_of l.parts.items))
