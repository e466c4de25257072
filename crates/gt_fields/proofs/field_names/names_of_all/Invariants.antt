use Rattle.std.proofs.Common.{◌≡◌, take, map}
use Rattle.gt_fields.specs.FieldNames.{names_of}
use Rattle.gt_fields.proofs.field_names.names_of_all.Given as goal

abbrev pub invariant-loop-structure : goal.invariant-loop-structure
invariant-loop-structure l = l.made.items ≡ map names_of (take l.structure-index l.structures)
