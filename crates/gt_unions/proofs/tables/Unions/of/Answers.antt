use Rattle.std.proofs.Common.{◌≡◌, ◌∙◌, Some, List, ap, sym, subst}
use Rattle.std.specs.Prelude.{slice_get}
use Rattle.std.proofs.lemmas.Option.{slice_get-get_or}
use Rattle.gt_types.specs.declared.program.Structure.{Structure}
use Rattle.gt_unions.proofs.tables.Unions.of.Goals as goal

pub of-requires-clause-there : goal.of-requires-clause-there
of-requires-clause-there c = (
  record { 0 = c.loop-structure.structure-index },
  subst (λ (ss : List Structure). slice_get ss c.loop-structure.structure-index ≡ Some c.structure-item.result) c.as_slice-structure-items.ensures.items
      (slice_get-get_or c.as_slice-structure-items.result.now c.loop-structure.structure-index c.structure-item.result c.loop-structure-test.true ∙ ap Some (sym c.structure-item.is)),
)
