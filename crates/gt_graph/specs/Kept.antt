-- What a collection keeps: the objects that the roots reach, and with the cache pairs that stay, what their values reach.
use Rattle.std.specs.Prelude.{◌≡◌, ◌⊎◌, ◌↔◌, ℕ, Bool, if◌then◌else◌, List, [], ◌∷◌, Some, IsTrue, Contains, filter}
use Rattle.gt_types.specs.declared.program.Root.{Root}
use Rattle.gt_types.specs.declared.program.Program.{Program}
use Rattle.gt_tree.specs.Trees.{Trees, And, edges, without_pointers}
use Rattle.gt_tree.specs.Fits.{static_edges}
use Rattle.gt_graph.specs.Objects.{Object, Graph, object_of}
use Rattle.gt_graph.specs.Good.{Heap}

-- ---- what is reached

-- an object points to another
abbrev pub PointsTo : Graph → ℕ → ℕ → Type 0
PointsTo g from to = (o : Object) × (object_of g.objects from ≡ Some o) × Contains (edges o.value) to

-- pointers lead, one after another, from an object to one that is then reached from it; each object reaches itself
pub data ReachedFrom (g : Graph) : ℕ → ℕ → Type 0 where
  itself : {id : ℕ} → ReachedFrom g id id
  onward : {from through to : ℕ} → PointsTo g from through → ReachedFrom g through to → ReachedFrom g from to

-- an object is reached from one that a root names, where the root is not deletable, or from one of these, which are the values of the
-- pairs that stayed so far
abbrev pub ReachedWith : Program → Graph → List ℕ → ℕ → Type 0
ReachedWith program g values to = (from : ℕ) × (Contains (static_edges program.roots g.statics) from ⊎ Contains values from) × ReachedFrom g from to

-- ---- caches

-- A pair whose key is reached when its turn comes stays, and its value is one more from which objects are reached; another
-- pair is dropped, and no later one brings it back.
pub data PairsStay (program : Program) (g : Graph) : (values : List ℕ) → (old new : List (ℕ × ℕ)) → (after : List ℕ) → Type 0 where
  no_pair : {values : List ℕ} → PairsStay program g values [] [] values
  stays : {values after : List ℕ} {pair : ℕ × ℕ} {old new : List (ℕ × ℕ)} → ReachedWith program g values pair.0
      → PairsStay program g (pair.1 ∷ values) old new after → PairsStay program g values (pair ∷ old) (pair ∷ new) after
  goes : {values after : List ℕ} {pair : ℕ × ℕ} {old new : List (ℕ × ℕ)} → ¬ ReachedWith program g values pair.0
      → PairsStay program g values old new after → PairsStay program g values (pair ∷ old) new after

-- the same for caches in the order of their declarations, each with its pairs in order
pub data CachesStay (program : Program) (g : Graph) : (values : List ℕ) → (old new : List (List (ℕ × ℕ))) → (after : List ℕ) → Type 0 where
  no_cache : {values : List ℕ} → CachesStay program g values [] [] values
  next_cache : {values middle after : List ℕ} {old new : List (ℕ × ℕ)} {olds news : List (List (ℕ × ℕ))} → PairsStay program g values old new middle
      → CachesStay program g middle olds news after → CachesStay program g values (old ∷ olds) (new ∷ news) after

-- ---- after a collection

-- the values of roots, with null for the pointers of those that are deletable
abbrev pub without_deletable : List Root → Trees → Trees
without_deletable (root ∷ roots) (And tree trees) = And (if root.deletable then without_pointers tree else tree) (without_deletable roots trees)
without_deletable roots trees = trees

-- What a collection leaves: exactly the objects that are reached, with their values, places and order; the pairs that stay; and the
-- roots, of which deletable ones are null. The image and the number of pages are as before.
pub record After (program : Program) (old new : Heap) : Type 0 where
  pub values : List ℕ
  pub stay : CachesStay program old.graph [] old.graph.pairs new.graph.pairs values
  pub kept : ℕ → Bool
  pub exact : (o : Object) → Contains old.graph.objects o → IsTrue (kept o.id) ↔ ReachedWith program old.graph values o.id
  pub objects : new.graph.objects ≡ filter (λ o. kept o.id) old.graph.objects
  pub statics : new.graph.statics ≡ without_deletable program.roots old.graph.statics
  pub places : new.places ≡ record old.places { placed = filter (λ p. kept p.id) old.places.placed }
