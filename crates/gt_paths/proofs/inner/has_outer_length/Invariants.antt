use Rattle.std.proofs.Common.{take}
use Rattle.std.specs.Prelude.{All}
use Rattle.gt_types.specs.declared.program.Field.{Field}
use Rattle.gt_types.specs.Shapes.{count_of}
use Rattle.gt_types.specs.Paths.{NamesOuter}
use Rattle.gt_paths.specs.Results.{HasResult}
use Rattle.gt_paths.proofs.inner.has_outer_length.Given as goal

abbrev pub invariant-loop-f : goal.invariant-loop-f
invariant-loop-f l = All (λ x. ¬ (HasResult (λ (g : Field). count_of g.ty) NamesOuter) x) (take l.f-index l.fields)
