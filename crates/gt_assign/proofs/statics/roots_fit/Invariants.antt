use Rattle.std.proofs.Common.{◌↔◌, drop}
use Rattle.gt_types.specs.declared.program.Root.{Root}
use Rattle.gt_fit.specs.Scoping.{scope_of}
use Rattle.gt_fit.proofs.PartsFit.{FieldsDo}
use Rattle.gt_assign.proofs.statics.roots_fit.Given as goal

abbrev pub invariant-loop-i : goal.invariant-loop-i
invariant-loop-i g l =
    FieldsDo l.on.program.now (g.N.BlockNames.blocks l.on.names.now) l.on.capacity (scope_of l.within) (λ (r : Root). r.ty) (drop l.i l.roots) (drop l.i l.parts)
    ↔ FieldsDo l.on.program.now (g.N.BlockNames.blocks l.on.names.now) l.on.capacity (scope_of l.within) (λ (r : Root). r.ty) l.roots l.parts
