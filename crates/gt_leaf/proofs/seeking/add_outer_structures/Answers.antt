use Rattle.std.proofs.Common.{◌≤◌, length, subst}
use Rattle.gt_paths.proofs.ByStep.{read_in}
use Rattle.gt_starts.specs.Paths.{BeginsIn}
use Rattle.gt_leaf.specs.Seeking.{PathsOutermost}
use Rattle.gt_leaf.proofs.Gaining.{before-none, before-next, before-all}
use Rattle.gt_leaf.proofs.seeking.add_outer_structures.Goals as goal

pub loop-node-init : goal.loop-node-init
loop-node-init c = before-none (PathsOutermost c.args.program.now) c.args.program.now.structures (BeginsIn c.args.paths.now)

pub loop-node-preserved : goal.loop-node-preserved
loop-node-preserved c =
    before-next (PathsOutermost c.args.program.now) c.args.program.now.structures (BeginsIn c.args.paths.now) (BeginsIn c.loop-node.paths) (BeginsIn c.add_outer_structure.new.paths) c.loop-node.node c.s-item.result
    (read_in c.args.program.now c.as_slice-s-items.result.now c.loop-node.node c.s-item.result c.as_slice-s-items.ensures.items c.loop-node-test.true c.s-item.is) c.loop-node.invariant c.in_ok-add_outer_structure.ensures.added

pub returns : goal.returns
returns c = record {
  added = before-all (PathsOutermost c.args.program.now) c.args.program.now.structures (BeginsIn c.args.paths.now) (BeginsIn c.loop-node.paths) c.loop-node.node
      (subst (λ xs. length xs ≤ c.loop-node.node) c.as_slice-s-items.ensures.items c.loop-node-test.false) c.loop-node.invariant;
}
