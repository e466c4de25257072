use Rattle.std.proofs.Common.{map, take}
use Rattle.gt_types.specs.declared.program.Root.{Root}
use Rattle.gt_value.specs.Values.{tree_of, trees}
use Rattle.gt_value.specs.Noughts.{AreNoughts}
use Rattle.gt_value.proofs.zeros.zero_statics.Given as goal

abbrev pub invariant-loop-root : goal.invariant-loop-root
invariant-loop-root l = AreNoughts l.program 0 (map (λ (r : Root). r.ty) (take l.root-index l.root-items)) (trees (map tree_of l.parts.items))
