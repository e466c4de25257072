use Rattle.gt_tree.proofs.Edges.{edges-targets}
use Rattle.gt_tree.proofs.laws.edges_are_in_leaves.Goals as goal

pub returns : goal.returns
returns c program layouts settled = edges-targets program layouts
