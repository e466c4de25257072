use Rattle.std.proofs.Common.{map}
use Rattle.gt_types.specs.declared.program.Root.{Root}
use Rattle.gt_tree.specs.Trees.{Trees}
use Rattle.gt_value.specs.Reading.{FieldsStand}
use Rattle.gt_value.proofs.StandingSteps.{FieldsRest}
use Rattle.gt_value.proofs.reading.read_roots.Given as goal

abbrev pub invariant-loop-i : goal.invariant-loop-i
invariant-loop-i l =
    (values : Trees) → FieldsStand l.source l.around (map (λ (r : Root). r.ty) l.roots) l.spots 0 values → FieldsRest l.source l.around (λ (r : Root). r.ty) l.roots l.spots 0 values l.parts.items l.i
