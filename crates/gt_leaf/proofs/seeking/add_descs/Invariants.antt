use Rattle.gt_types.specs.declared.program.Field.{Field}
use Rattle.gt_types.specs.Shapes.{innermost}
use Rattle.gt_leaf.specs.Seeking.{Gains, PathsOfSome, desc_in}
use Rattle.gt_sets.specs.Sets.{IsIn}
use Rattle.gt_starts.specs.Paths.{BeginsIn}
use Rattle.gt_leaf.proofs.Gaining.{Before}
use Rattle.gt_leaf.proofs.seeking.add_descs.Given as goal

abbrev pub invariant-loop-f : goal.invariant-loop-f
invariant-loop-f l = Gains (BeginsIn l.fn.paths) (BeginsIn l.paths) (Before (λ i (f : Field). PathsOfSome l.base (IsIn l.begins.value) (desc_in (innermost f.ty))) l.fields l.f-index)
