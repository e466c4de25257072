use Rattle.gt_walk.specs.Rows.{Edge, edges_of}
use Rattle.gt_walk.proofs.Taking.{can-all}
use Rattle.edges_table.specs.declared.edges.Collected.{Collected}
use Rattle.edges_table.proofs.edges.walk_edges.Goals as goal

pub visit-requires : goal.visit-requires
visit-requires c = record {
  can = can-all (λ (s : Collected) (e : Edge). Unit {0}) (λ (s : Collected) (e : Edge) (t : Collected). Unit {0}) (λ s e. tt) _ (edges_of c.args.tables.now c.args.walk 1 c.args.space.now c.args.addr);
}
