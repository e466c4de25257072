use Rattle.std.proofs.Common.{List}
use Rattle.gt_types.specs.declared.program.Structure.{Structure}
use Rattle.gt_fields.specs.FieldNames.{AreNamesOf}
use Rattle.gt_paths.proofs.Firsts.{FirstsBefore}
use Rattle.gt_paths.proofs.distinct.has_distinct_names.Given as goal

abbrev pub invariant-loop-place : goal.invariant-loop-place
invariant-loop-place l = (structures : List Structure) → AreNamesOf structures l.names → FirstsBefore structures l.node.0 l.fields l.place
