-- That walker tables give on the bytes of a heap the edges of its objects and of its roots.
use Rattle.std.specs.Prelude.{◌≡◌, ◌≢◌, List, map, All, AllPairs, Contains}
use Rattle.gt_types.specs.declared.program.Program.{Program}
use Rattle.gt_space.specs.Range.{Range}
use Rattle.gt_pages.specs.Slots.{Slot}
use Rattle.gt_tree.specs.Trees.{edges}
use Rattle.gt_tree.specs.Fits.{static_edges}
use Rattle.gt_graph.specs.Objects.{Object, Graph}
use Rattle.gt_graph.specs.Rounds.{LeadsAside}
use Rattle.gt_walk.specs.declared.tables.Tables.{Tables}
use Rattle.gt_walk.specs.Rows.{Edge}
use Rattle.gt_mark.specs.Reached.{NamesBlock, block_edges, root_edges, root_targets}
use Rattle.gt_mark.specs.Rounds.{IsChainEdge}
use Rattle.gt_tracing.specs.Walked.{walks_in}

-- The blocks of a space are those of the objects. The edges of a block are those of its object, in order, and each names a block as this is
-- walked; one that does not lie at the chain pointer leads aside. So it is with the roots.
pub record Traces (program : Program) (tables : Tables) (space : Range) (slots : List Slot) (g : Graph) : Type 0 where
  pub blocks : map (λ s. s.address) slots ≡ map (λ o. o.id) g.objects
  pub distinct : AllPairs (λ o p. o.id ≢ p.id) g.objects
  pub edges : (o : Object) → Contains g.objects o → map (λ e. e.target) (block_edges tables space (walks_in program g.objects) o.id) ≡ edges o.value
  pub names : (o : Object) → Contains g.objects o → All (NamesBlock slots (walks_in program g.objects)) (block_edges tables space (walks_in program g.objects) o.id)
  pub aside : (o : Object) (e : Edge) → Contains g.objects o → Contains (block_edges tables space (walks_in program g.objects) o.id) e
      → ¬ IsChainEdge tables (walks_in program g.objects) o.id e → LeadsAside program o e.target
  pub roots : root_targets tables space ≡ static_edges program.roots g.statics
  pub root_names : All (NamesBlock slots (walks_in program g.objects)) (root_edges tables space)
