use Rattle.gt_edges.proofs.BlockEdges.{gives-elements}
use Rattle.gt_edges.proofs.RootEdges.{gives-roots}
use Rattle.gt_edges.proofs.laws.walks_give_edges.Goals as goal

pub returns-clause-elements : goal.returns-clause-elements
returns-clause-elements c = gives-elements

pub returns-clause-roots : goal.returns-clause-roots
returns-clause-roots c = gives-roots
