use Rattle.std.proofs.Common.{◌+◌, ◌-◌, ◌*◌}
use Rattle.gt_types.specs.declared.program.Field.{Field}
use Rattle.gt_types.specs.Shapes.{dimensions}
use Rattle.gt_tree.specs.Trees.{Trees}
use Rattle.gt_tree.specs.Fits.{types_of}
use Rattle.gt_value.specs.Reading.{FieldsStand, EachStands}
use Rattle.gt_value.proofs.StandingSteps.{EachRest, FieldsRest}
use Rattle.gt_value.proofs.reading.+reading.Given as goal

abbrev pub decreases-read_type : goal.decreases-read_type
decreases-read_type l = 16 * l.depth + (3 * dimensions l.ty.now + 1)

abbrev pub decreases-read_elements : goal.decreases-read_elements
decreases-read_elements l = 16 * l.depth + (3 * dimensions l.elem.now + 2)

abbrev pub decreases-read_fields : goal.decreases-read_fields
decreases-read_fields l = 16 * l.depth + 14

abbrev pub decreases-read_structure : goal.decreases-read_structure
decreases-read_structure l = 16 * l.depth + 15

abbrev pub decreases-read_union : goal.decreases-read_union
decreases-read_union l = 16 * l.depth + 14

abbrev pub invariant-read_elements-loop : goal.invariant-read_elements-loop
invariant-read_elements-loop l =
    (values : Trees) → EachStands l.source l.around l.elem l.at l.n values → EachRest l.source l.around l.elem values l.parts.items l.begin (l.n - l.counter)

abbrev pub invariant-read_fields-loop-i : goal.invariant-read_fields-loop-i
invariant-read_fields-loop-i l =
    (values : Trees) → FieldsStand l.source l.around (types_of l.fields) l.spots l.at values → FieldsRest l.source l.around (λ (f : Field). f.ty) l.fields l.spots l.at values l.parts.items l.i
