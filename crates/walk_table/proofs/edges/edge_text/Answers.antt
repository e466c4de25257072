use Rattle.gt_walk.specs.Rows.{Edge, edges_of}
use Rattle.gt_walk.proofs.Taking.{can-all}
use Rattle.walk_table.specs.declared.edges.Edges.{Edges}
use Rattle.walk_table.proofs.edges.edge_text.Goals as goal

pub visit-requires : goal.visit-requires
visit-requires c = record {
  can = can-all (λ (s : Edges) (e : Edge). Unit {0}) (λ (s : Edges) (e : Edge) (t : Edges). Unit {0}) (λ s e. tt) _ (edges_of c.args.tables.now c.args.walk c.args.count c.args.space.now c.args.addr);
}
