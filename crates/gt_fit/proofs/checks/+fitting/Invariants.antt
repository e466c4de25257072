use Rattle.std.proofs.Common.{◌↔◌, drop}
use Rattle.gt_types.specs.declared.program.Field.{Field}
use Rattle.gt_fit.specs.Scoping.{scope_of}
use Rattle.gt_fit.proofs.PartsFit.{FieldsDo, EachDoes}
use Rattle.gt_fit.proofs.checks.+fitting.Given as goal

abbrev pub invariant-fields_fit-loop-i : goal.invariant-fields_fit-loop-i
invariant-fields_fit-loop-i g l =
    FieldsDo l.on.program.now (g.N.BlockNames.blocks l.on.names.now) l.on.capacity (scope_of l.inner) (λ (f : Field). f.ty) (drop l.i l.fields) (drop l.i l.parts)
    ↔ FieldsDo l.on.program.now (g.N.BlockNames.blocks l.on.names.now) l.on.capacity (scope_of l.inner) (λ (f : Field). f.ty) l.fields l.parts

abbrev pub invariant-each_fits-loop-part : goal.invariant-each_fits-loop-part
invariant-each_fits-loop-part g l =
    EachDoes l.on.program.now (g.N.BlockNames.blocks l.on.names.now) l.on.capacity (scope_of l.within) l.elem (drop l.part-index l.parts)
    ↔ EachDoes l.on.program.now (g.N.BlockNames.blocks l.on.names.now) l.on.capacity (scope_of l.within) l.elem l.parts
