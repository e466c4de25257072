use Rattle.std.proofs.Common.{◌≡◌, map, take}
use Rattle.gt_declare.specs.Programs.{field_of}
use Rattle.gt_declare.proofs.fields.fields_of.Given as goal

abbrev pub invariant-loop-field : goal.invariant-loop-field
invariant-loop-field l = l.made.items ≡ map (field_of l.draft l.planes l.in_union) (take l.field-index l.fields)
