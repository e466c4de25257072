use Rattle.std.proofs.Common.{◌+◌, ◌*◌, []}
use Rattle.std.specs.Prelude.{IfSome, All, flat_map}
use Rattle.gt_types.specs.Shapes.{dimensions}
use Rattle.gt_layout.specs.Progress.{IsWithinDepth}
use Rattle.gt_walk.specs.declared.rows.Arm.{Arm, out-Arm}
use Rattle.gt_walk.specs.Nested.{parts_in}
use Rattle.gt_tables.specs.Building.{first_of, AreRows, IsRow, Grows, AreServed}
use Rattle.gt_tables.specs.Counting.{Counts}
use Rattle.gt_tables.proofs.NamedParts.{arms_name}
use Rattle.gt_tables.proofs.Serving.{FieldsSoFar, ArmsSoFar}
use Rattle.gt_tables.proofs.rows.+rows.Given as goal

abbrev pub decreases-type_row : goal.decreases-type_row
decreases-type_row l = 16 * l.depth + (dimensions l.ty.now + 1)

abbrev pub decreases-part_walk : goal.decreases-part_walk
decreases-part_walk l = 16 * l.depth + 16

abbrev pub decreases-structure_rows : goal.decreases-structure_rows
decreases-structure_rows l = 16 * l.depth + 15

abbrev pub decreases-add_fields : goal.decreases-add_fields
decreases-add_fields l = 16 * l.depth + 14

abbrev pub decreases-union_arms : goal.decreases-union_arms
decreases-union_arms l = 16 * l.depth + 14

-- rows stay good while walks are added, and serve the fields before this one
abbrev pub invariant-add_fields-loop-i : goal.invariant-add_fields-loop-i
invariant-add_fields-loop-i l = record {
  grows : Grows l.source.program.now l.fn.parts l.parts;
  counts : Counts l.source (IsWithinDepth l.source.program.now l.id.0) (λ n. n) (flat_map parts_in l.fn.rows.items) (flat_map parts_in l.rows.items) l.fn.parts l.parts;
  served : AreServed l.source l.parts;
  adds : FieldsSoFar l.source l.parts.walks.items l.inner l.fields l.spots l.i l.fn.rows.items l.rows.items;
  rows : AreRows (first_of l.source) l.parts.walks.items (IsWithinDepth l.source.program.now l.id.0) l.rows.items;
}

abbrev pub invariant-union_arms-loop-i : goal.invariant-union_arms-loop-i
invariant-union_arms-loop-i l = record {
  grows : Grows l.source.program.now l.fn.parts l.parts;
  counts : Counts l.source (IsWithinDepth l.source.program.now l.id.0) (λ n. n) [] (arms_name l.arms.items) l.fn.parts l.parts;
  served : AreServed l.source l.parts;
  serves : ArmsSoFar l.source l.parts.walks.items l.inner l.fields l.i l.arms.items;
  arms : All (λ (a : Arm). IfSome (out-Arm a).row (IsRow (first_of l.source) l.parts.walks.items (IsWithinDepth l.source.program.now l.id.0))) l.arms.items;
}
