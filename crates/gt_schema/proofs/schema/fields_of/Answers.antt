use Rattle.std.proofs.Common.{◌≤◌, sym, subst}
use Rattle.std.specs.Prelude.{All, List, length}
use Rattle.gt_types.specs.declared.limits.TheConstants.{MAX_FIELDS}
use Rattle.gt_types.specs.declared.program.Structure.{Structure}
use Rattle.gt_schema.proofs.FewFields.{few-fields}
use Rattle.gt_schema.proofs.schema.fields_of.Goals as goal

pub of-requires : goal.of-requires
of-requires c = record {
  few = subst (λ (xs : List Structure). All (λ (s : Structure). length s.fields ≤ MAX_FIELDS) xs) (sym c.as_slice.ensures.items) (few-fields c.args.program.now c.requires.settled);
}
