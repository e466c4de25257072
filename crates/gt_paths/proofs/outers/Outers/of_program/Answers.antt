use Rattle.std.proofs.Common.{◌≡◌, ◌≤◌, length, arith}
use Rattle.gt_types.specs.declared.limits.TheConstants.{MAX_STRUCTURES}
use Rattle.gt_paths.proofs.Ancestors.{outers_are}
use Rattle.gt_paths.proofs.outers.Outers.of_program.Goals as goal

-- the sets of all structures
pub returns : goal.returns
returns c =
    let few : c.len-count.result ≤ MAX_STRUCTURES = omega (arith, c.if-count-gt-MAX_STRUCTURES.false) in
    let many : length c.loop-node.sets ≡ length c.args.program.now.structures = omega (arith, few, c.len-count.ensures.items, c.loop-node.invariant.0, c.loop-node-test.false, c.loop-node.auto.node-end) in
    record {
      outers = outers_are c.args.program.now c.args.containers.now c.loop-node.sets c.requires.containers many c.loop-node.invariant.1;
    }
