use Rattle.std.proofs.Common.{refl}
use Rattle.gt_walk.specs.Rows.{Edge, edges_of}
use Rattle.gt_walk.proofs.Taking.{can-all}
use Rattle.sample_heap.specs.declared.edges.EdgeTest.{EdgeTest}
use Rattle.sample_heap.specs.Named.{Tests}
use Rattle.sample_heap.proofs.Ready.{all_tested}
use Rattle.sample_heap.proofs.edges.are_named.Goals as goal

pub visit-requires : goal.visit-requires
visit-requires c =
    record { can = can-all (λ (t : EdgeTest) (e : Edge). Unit {0}) Tests (λ t e. tt) _ (edges_of c.args.tables.now c.args.walk c.args.count c.args.space.now c.args.addr) }

pub returns : goal.returns
returns c = λ holds.
    (all_tested c.args.known.now.slots c.args.pages.now.slots (edges_of c.args.tables.now c.args.walk c.args.count c.args.space.now c.args.addr) _ c.visit.new.sink refl refl c.visit.ensures.took holds).1
