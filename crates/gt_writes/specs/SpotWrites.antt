-- One leaf of a heap that is written, whatever expressions read it.
use Rattle.std.specs.Prelude.{◌≡◌, ◌<◌, ℕ, ℤ, List, IsTrue, Some, All}
use Rattle.gt_types.specs.declared.types.Ty.{Ty}
use Rattle.gt_types.specs.declared.program.Program.{Program}
use Rattle.gt_types.specs.Shapes.{is_number, is_pointer}
use Rattle.gt_layout.specs.declared.planes.Layouts.{Layouts}
use Rattle.gt_tree.specs.Trees.{Tree, Num, Null, To, Raw}
use Rattle.gt_tree.specs.Scopes.{Typed}
use Rattle.gt_tree.specs.Blocks.{Chars}
use Rattle.gt_value.specs.declared.places.LeafContent.{LeafContent}
use Rattle.gt_value.specs.declared.places.LeafContent.TheVariants as content
use Rattle.gt_value.specs.Places.{IsContentOf}
use Rattle.gt_graph.specs.Objects.{Object, Graph, object_of}
use Rattle.gt_graph.specs.Changes.{Owner, Of, Writes}
use Rattle.gt_graph.specs.Good.{Heap}
use Rattle.gt_objects.specs.declared.objects.Objects.{Objects}
use Rattle.gt_elements.specs.InHeap.{IsWrittenInHeap}
use Rattle.gt_next.specs.Spots.{Spot, spot, Value, standing_at, is_in_none}
use Rattle.gt_next.specs.Leaves.{takes_numbers, is_word_type, is_in_range, kind_named}

-- a leaf suits a type: a number in its range, null, or a pointer to an object that the type names
pub data LeafSuits (objects : List Object) : Ty → LeafContent → Type 0 where
  number : {type : Ty} {n : ℤ} → IsTrue (takes_numbers type) → IsTrue (is_in_range type n) → LeafSuits objects type (content.Num n)
  null : {type : Ty} → IsTrue (is_pointer type) → LeafSuits objects type content.Null
  to : {type : Ty} {id : ℕ} {o : Object} → object_of objects id ≡ Some o → kind_named type ≡ Some o.kind → LeafSuits objects type (content.To id)

-- what a leaf is at a value of a type: in eight bytes that are never scanned a number is these bytes
pub data IsTreeOf : Ty → LeafContent → Tree → Type 0 where
  number : {type : Ty} {n : ℤ} → IsTrue (is_number type) → IsTreeOf type (content.Num n) (Num n)
  word : {type : Ty} {n : ℤ} {bytes : List ℕ} → IsTrue (is_word_type type) → IsContentOf (content.Num n) (Raw bytes) → All (λ byte. byte < 256) bytes
      → IsTreeOf type (content.Num n) (Raw bytes)
  null : {type : Ty} → IsTreeOf type content.Null Null
  to : {type : Ty} {id : ℕ} → IsTreeOf type (content.To id) (To id)

-- A leaf may be written at a spot: it suits the value there; no string stands around it; and a pointer lies in no common structure while
-- no member of its union is active.
pub record SpotTakes (program : Program) (g : Graph) (at : Spot) (leaf : LeafContent) : Type 0 where
  pub t : Typed
  pub standing : standing_at program g at ≡ Some (Value t)
  pub suits : LeafSuits g.objects t.type leaf
  pub no_string : (id : ℕ) (o : Object) → at.owner ≡ Of id → object_of g.objects id ≡ Some o → ¬ (o.kind ≡ Chars)
  pub not_idle : IsTrue (is_pointer t.type) → ¬ IsTrue (is_in_none g at)

-- the leaf at a spot is written in the heap, and these are its bytes, pages and directory then
pub record IsWrittenAt (program : Program) (layouts : Layouts) (heap : Heap) (owner : Owner) (path : List ℕ) (leaf : LeafContent) (new : Objects) : Type 0 where
  pub t : Typed
  pub standing : standing_at program heap.graph (spot owner path) ≡ Some (Value t)
  pub tree : Tree
  pub is : IsTreeOf t.type leaf tree
  pub written : IsWrittenInHeap program layouts heap owner path tree new

-- no value fits with this leaf at the spot
abbrev pub MisfitsAt : Program → Heap → Owner → List ℕ → LeafContent → Type 0
MisfitsAt program heap owner path leaf =
    (t : Typed) (tree : Tree) (g : Graph) → standing_at program heap.graph (spot owner path) ≡ Some (Value t) → IsTreeOf t.type leaf tree → ¬ Writes program heap.graph owner path tree g
