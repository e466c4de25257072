-- What holds of each heap that a program can reach.
use Rattle.std.specs.Prelude.{◌≡◌, ◌≢◌, ◌≤◌, ℕ, List, All, AllPairs}
use Rattle.std.specs.List.{AllZip}
use Rattle.gt_types.specs.declared.types.TypeId.{TypeId}
use Rattle.gt_types.specs.declared.program.Cache.{Cache}
use Rattle.gt_types.specs.declared.program.Program.{Program}
use Rattle.gt_types.specs.Tails.{IsTailType}
use Rattle.gt_layout.specs.declared.planes.Layouts.{Layouts}
use Rattle.gt_tree.specs.Blocks.{Kind, Nodes, Holds}
use Rattle.gt_tree.specs.Fits.{BlockFits, StaticsFit}
use Rattle.gt_tree.specs.FixedLaws.{MayHold}
use Rattle.gt_graph.specs.Objects.{Object, Graph, blocks_of, pairs_in}
use Rattle.gt_graph.specs.Places.{Places, ArePlacesOf}

-- how many pairs all caches may have together
abbrev pub MAX_PAIRS : ℕ
MAX_PAIRS = 1048576

-- structures of a tail type
abbrev pub IsOfTails : Program → Kind → Type 0
IsOfTails program kind = (node : TypeId) × (kind ≡ Nodes node) × IsTailType program node

-- an object: what it holds may stand alone, its value fits, and only a single structure of a tail type has room at its end
pub record IsObject (program : Program) (g : Graph) (o : Object) : Type 0 where
  pub may_hold : MayHold program o.kind
  pub single_tail : IsOfTails program o.kind → o.count ≡ 1
  pub no_room : ¬ IsOfTails program o.kind → o.capacity ≡ 0
  pub fits : BlockFits program (blocks_of g.objects) g.statics o.kind o.count o.capacity o.value

-- a single structure of this type
abbrev pub IsSingle : List Object → ℕ → TypeId → Type 0
IsSingle objects id node = Holds (blocks_of objects) id (Nodes node) 1

-- the pairs of a cache: keys and values are single structures of the cache's types, and no key stands twice
pub record ArePairsOf (objects : List Object) (cache : Cache) (pairs : List (ℕ × ℕ)) : Type 0 where
  pub singles : All (λ pair. IsSingle objects pair.0 cache.key × IsSingle objects pair.1 cache.value) pairs
  pub distinct : AllPairs (λ pair other. pair.0 ≢ other.0) pairs

-- a graph, apart from where its objects lie
pub record IsGraph (program : Program) (g : Graph) : Type 0 where
  pub distinct : AllPairs (λ o p. o.id ≢ p.id) g.objects
  pub objects : All (IsObject program g) g.objects
  pub statics : StaticsFit program (blocks_of g.objects) g.statics
  pub pairs : AllZip (ArePairsOf g.objects) program.caches g.pairs
  pub few_pairs : pairs_in g.pairs ≤ MAX_PAIRS

-- a graph, and where its objects lie
pub record Heap : Type 0 where
  pub graph : Graph
  pub places : Places

pub record IsGood (program : Program) (layouts : Layouts) (heap : Heap) : Type 0 where
  pub graph : IsGraph program heap.graph
  pub places : ArePlacesOf program layouts heap.graph.objects heap.places
