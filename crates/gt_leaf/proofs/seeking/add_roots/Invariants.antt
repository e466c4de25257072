use Rattle.gt_types.specs.declared.program.Root.{Root}
use Rattle.gt_types.specs.Shapes.{innermost}
use Rattle.gt_leaf.specs.Seeking.{Gains, PathsOfUnion}
use Rattle.gt_starts.specs.Paths.{BeginsIn}
use Rattle.gt_leaf.proofs.Gaining.{Before}
use Rattle.gt_leaf.proofs.seeking.add_roots.Given as goal

abbrev pub invariant-loop-r : goal.invariant-loop-r
invariant-loop-r l = Gains (BeginsIn l.fn.paths) (BeginsIn l.paths) (Before (λ i (r : Root). PathsOfUnion l.base (innermost r.ty)) l.roots l.r-index)
