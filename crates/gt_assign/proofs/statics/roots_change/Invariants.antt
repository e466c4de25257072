use Rattle.std.proofs.Common.{map}
use Rattle.gt_types.specs.declared.program.Root.{Root}
use Rattle.gt_value.specs.Values.{trees, tree_of}
use Rattle.gt_assign.specs.Pasts.{past_of}
use Rattle.gt_assign.specs.Turning.{made}
use Rattle.gt_assign.proofs.Decided.{SoFar}
use Rattle.gt_assign.proofs.PartFields.{fields_from}
use Rattle.gt_assign.proofs.statics.roots_change.Given as goal

abbrev pub invariant-loop-i : goal.invariant-loop-i
invariant-loop-i l = SoFar (fields_from (made l.on.program.now l.on.capacity 256) (past_of l.around) (λ (r : Root). r.ty) l.roots l.parts) (trees (map tree_of l.parts)) l.i l.all
