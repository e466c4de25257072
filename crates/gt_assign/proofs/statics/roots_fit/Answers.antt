use Rattle.std.proofs.Common.{◌↔◌, IsTrue, sym, subst, arith}
use Rattle.gt_types.specs.declared.program.Root.{Root}
use Rattle.gt_tree.specs.Fits.{Fits}
use Rattle.gt_value.specs.Values.{tree_of}
use Rattle.gt_fit.specs.Scoping.{scope_of}
use Rattle.gt_fit.proofs.Layers.{granted, refused}
use Rattle.gt_fit.proofs.PartsFit.{fields-uneven, fields-more, fields-stop, fields-done}
use Rattle.gt_assign.proofs.statics.roots_fit.Goals as goal

pub returns-then-parts-roots : goal.returns-then-parts-roots
returns-then-parts-roots g c = fields-uneven c.args.on.now.program.now (g.N.BlockNames.blocks c.args.on.now.names.now) c.args.on.now.capacity (scope_of c.args.within.now) (λ (r : Root). r.ty) c.args.roots.now c.args.parts.now c.if-parts-roots.true

pub loop-i-preserved : goal.loop-i-preserved
loop-i-preserved g c =
    fields-more c.args.on.now.program.now (g.N.BlockNames.blocks c.args.on.now.names.now) c.args.on.now.capacity (scope_of c.args.within.now) (λ (r : Root). r.ty) c.args.roots.now c.args.parts.now c.loop-i.i c.index-roots-i.result c.index-parts-i.result (omega arith) c.index-roots-i.is c.loop-i-test.true c.index-parts-i.is
    (granted c.fits.result _ (subst (λ (r : Root). IsTrue c.fits.result ↔ Fits c.args.on.now.program.now (g.N.BlockNames.blocks c.args.on.now.names.now) c.args.on.now.capacity (scope_of c.args.within.now) r.ty (tree_of c.index-parts-i.result)) (sym c.index-roots-i.is) c.fits.ensures) c.if-not-fits.false) c.loop-i.invariant

pub returns-then-not-fits : goal.returns-then-not-fits
returns-then-not-fits g c =
    fields-stop c.args.on.now.program.now (g.N.BlockNames.blocks c.args.on.now.names.now) c.args.on.now.capacity (scope_of c.args.within.now) (λ (r : Root). r.ty) c.args.roots.now c.args.parts.now c.loop-i.i c.index-roots-i.result c.index-parts-i.result (omega arith) c.index-roots-i.is c.loop-i-test.true c.index-parts-i.is
    (refused c.fits.result _ (subst (λ (r : Root). IsTrue c.fits.result ↔ Fits c.args.on.now.program.now (g.N.BlockNames.blocks c.args.on.now.names.now) c.args.on.now.capacity (scope_of c.args.within.now) r.ty (tree_of c.index-parts-i.result)) (sym c.index-roots-i.is) c.fits.ensures) c.if-not-fits.true) c.loop-i.invariant

pub returns : goal.returns
returns g c = fields-done c.args.on.now.program.now (g.N.BlockNames.blocks c.args.on.now.names.now) c.args.on.now.capacity (scope_of c.args.within.now) (λ (r : Root). r.ty) c.args.roots.now c.args.parts.now c.loop-i.i c.if-parts-roots.false c.loop-i-test.false c.loop-i.invariant
