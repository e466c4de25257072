use Rattle.std.proofs.Common.{List, subst}
use Rattle.gt_types.specs.declared.program.Structure.{Structure}
use Rattle.gt_fields.specs.FieldNames.{AreNamesOf}
use Rattle.gt_paths.proofs.Marking.{rows_are}
use Rattle.gt_paths.proofs.indexes.PathIndex.with_inner.Goals as goal

pub returns-clause-index : goal.returns-clause-index
returns-clause-index c = record {
  names = subst (λ (xs : List Structure). AreNamesOf xs c.in_ok-names.names) c.as_slice.ensures.items c.in_ok-names.ensures.names;
  distinct = c.are_distinct-distinct.ensures.distinct;
  containers = c.in_ok-containers.ensures.containers;
  outers = c.in_ok-outers.ensures.outers;
  steps = rows_are c.args.program.now c.in_ok-steps.steps c.in_ok-steps.ensures.rows;
}
