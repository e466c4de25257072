-- No promise: what is asked of a graph, in the order in which it is looked at.
use Rattle.std.specs.Prelude.{◌≡◌, ◌≢◌, ◌≤◌, ℕ, All, AllPairs}
use Rattle.std.specs.List.{AllZip}
use Rattle.gt_types.specs.declared.program.Program.{Program}
use Rattle.gt_tree.specs.Trees.{Trees}
use Rattle.gt_tree.specs.Blocks.{Blocks, element_type}
use Rattle.gt_tree.specs.Fits.{EachFits, EndsAs, StaticsFit}
use Rattle.gt_tree.specs.Scopes.{outside}
use Rattle.gt_value.specs.Names.{kind_of}
use Rattle.gt_graph.specs.Objects.{pairs_in}
use Rattle.gt_graph.specs.Good.{MAX_PAIRS, IsOfTails, IsObject, ArePairsOf}
use Rattle.heap_table.specs.declared.graphs.Object.{Object}
use Rattle.heap_table.specs.declared.graphs.Graph.{Graph}
use Rattle.heap_table.specs.Graphs.{object_of, objects_of, blocks_in, values_of, graph_of}

-- an object has as many elements, and as much room at its end, as it may
pub record HasItsSize (program : Program) (o : Object) : Type 0 where
  pub single_tail : IsOfTails program (kind_of o.kind) → o.count ≡ 1
  pub no_room : ¬ IsOfTails program (kind_of o.kind) → o.capacity ≡ 0

-- values are those of an object's elements
pub record PartsFit (program : Program) (blocks : Blocks) (statics : Trees) (o : Object) (parts : Trees) : Type 0 where
  pub each : EachFits program blocks o.capacity (outside statics) (element_type program (kind_of o.kind)) parts
  pub ends : EndsAs (kind_of o.kind) parts

-- the pairs of a graph are those of its caches, and not too many
pub record AreGoodPairs (program : Program) (g : Graph) : Type 0 where
  pub pairs : AllZip (ArePairsOf (objects_of g.objects.items)) program.caches (graph_of g).pairs
  pub few_pairs : pairs_in (graph_of g).pairs ≤ MAX_PAIRS

-- all that is asked of a graph, object by object
pub record IsGoodInside (program : Program) (g : Graph) : Type 0 where
  pub distinct : AllPairs (λ o p. o.id ≢ p.id) g.objects.items
  pub objects : All (λ o. IsObject program (graph_of g) (object_of o)) g.objects.items
  pub statics : StaticsFit program (blocks_in g.objects.items) (values_of g.statics.items)
  pub pairs : AreGoodPairs program g
