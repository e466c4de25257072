use Rattle.std.proofs.Common.{◌≡◌, ◌++◌, take}
use Rattle.std.specs.List.{flat_map}
use Rattle.gt_canon.specs.Canon.{field_line}
use Rattle.gt_canon.proofs.structures.push_fields.Given as goal

abbrev pub invariant-loop-f : goal.invariant-loop-f
invariant-loop-f l = l.text ≡ l.initial.text ++ flat_map (field_line l.program) (take l.f-index l.fields)
