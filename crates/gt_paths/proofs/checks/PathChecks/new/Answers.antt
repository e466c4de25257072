use Rattle.gt_paths.specs.Containers.{containers_of}
use Rattle.gt_paths.proofs.checks.PathChecks.new.Goals as goal

pub invariant_of-result : goal.invariant_of-result
invariant_of-result c = record {
  index_on = c.requires.index;
  for_containers = c.new.ensures.answers c.args.program.now (containers_of c.args.index.now.containers c.args.node.0);
  around = tt;
}
