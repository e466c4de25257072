use Rattle.std.proofs.Common.{◌≡◌, [], drop}
use Rattle.gt_fields.specs.FieldNames.{fields_from}
use Rattle.gt_fields.proofs.field_names.names_of.Given as goal

abbrev pub invariant-loop-place : goal.invariant-loop-place
invariant-loop-place l = fields_from l.made l.place (drop l.place l.fields) ≡ fields_from [] 0 l.fields
