use Rattle.std.proofs.Common.{arith}
use Rattle.gt_types.specs.declared.program.Root.{Root}
use Rattle.gt_types.specs.Shapes.{innermost}
use Rattle.gt_leaf.specs.Seeking.{PathsOfUnion}
use Rattle.gt_starts.specs.Paths.{BeginsIn}
use Rattle.gt_leaf.proofs.Gaining.{item-at, before-none, before-next, before-each}
use Rattle.gt_leaf.proofs.seeking.add_roots.Goals as goal

pub loop-r-init : goal.loop-r-init
loop-r-init c = before-none (λ i (r : Root). PathsOfUnion c.args.base (innermost r.ty)) c.args.roots.now (BeginsIn c.args.paths.now)

pub loop-r-preserved : goal.loop-r-preserved
loop-r-preserved c =
    before-next (λ i (r : Root). PathsOfUnion c.args.base (innermost r.ty)) c.args.roots.now (BeginsIn c.args.paths.now) (BeginsIn c.loop-r.paths) (BeginsIn c.add_union.new.paths) c.loop-r.r-index c.r-item.result
    (item-at c.args.roots.now c.loop-r.r-index c.r-item.result c.loop-r-test.true c.r-item.is) c.loop-r.invariant
    c.in_ok-add_union.ensures.added

pub returns : goal.returns
returns c = record {
  added = before-each (λ (r : Root). PathsOfUnion c.args.base (innermost r.ty)) c.args.roots.now (BeginsIn c.args.paths.now) (BeginsIn c.loop-r.paths) c.loop-r.r-index (omega (arith, c.loop-r-test.false)) c.loop-r.invariant;
}
