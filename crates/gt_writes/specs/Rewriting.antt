-- No promise: what the functions inside the crate do.
use Rattle.std.specs.Prelude.{◌≡◌, ◌<◌, ℕ, ℤ, List, true, false, ◌⊎◌, IsTrue, All}
use Rattle.gt_types.specs.declared.types.Ty.{Ty}
use Rattle.gt_types.specs.declared.program.Program.{Program}
use Rattle.gt_layout.specs.declared.planes.Layouts.{Layouts}
use Rattle.gt_space.specs.Range.{Range}
use Rattle.gt_tree.specs.Trees.{Tree, Raw, Trees}
use Rattle.gt_tree.specs.Numbers.{has_room}
use Rattle.gt_tree.specs.Reshapes.{Assigns, AssignsStatics}
use Rattle.gt_value.specs.declared.places.LeafContent.{LeafContent}
use Rattle.gt_value.specs.declared.places.LeafContent.TheVariants as content
use Rattle.gt_value.specs.declared.places.Place.{Place}
use Rattle.gt_value.specs.Bytes.{IsStored, AreStaticsStored}
use Rattle.gt_value.specs.Places.{IsContentOf}
use Rattle.gt_graph.specs.Good.{Heap}
use Rattle.gt_graph.specs.Objects.{blocks_of}
use Rattle.gt_leaf.specs.Writing.{StandsBeside, MayPut, MayPutStatic, is_number_leaf}

-- these are the eight bytes of a number
pub record IsWordOf (n : ℤ) (bytes : List ℕ) : Type 0 where
  pub means : IsContentOf (content.Num n) (Raw bytes)
  pub small : All (λ byte. byte < 256) bytes

-- a number has room in eight bytes
abbrev pub HasWord : LeafContent → Type 0
HasWord leaf = (n : ℤ) → leaf ≡ content.Num n → IsTrue (has_room true 64 n)

-- the bytes of an element are those of what the write of a leaf makes of it
pub record IsElementRewritten (program : Program) (layouts : Layouts) (heap : Heap) (capacity : ℕ) (type : Ty) (address : ℕ) (value : Tree) (path : List ℕ) (leaf : Tree) (old new : Range) : Type 0 where
  pub next : Tree
  pub assigns : Assigns program (blocks_of heap.graph.objects) heap.graph.statics capacity type value path leaf next
  pub stored : IsStored program layouts capacity type next old address new

-- so are those of the static record
pub record AreStaticsRewritten (program : Program) (layouts : Layouts) (heap : Heap) (path : List ℕ) (leaf : Tree) (old new : Range) : Type 0 where
  pub news : Trees
  pub assigns : AssignsStatics program (blocks_of heap.graph.objects) heap.graph.statics path leaf news
  pub stored : AreStaticsStored program layouts news old new

-- the bytes of an element stand for a value in a heap
abbrev pub StandsIn : Program → Layouts → Heap → ℕ → Ty → Range → ℕ → Tree → Type 0
StandsIn program layouts heap capacity type range address value = StandsBeside program layouts (blocks_of heap.graph.objects) heap.graph.statics capacity type range address value

-- no value is what the write of a leaf makes of an element
abbrev pub ElementMisfits : Program → Heap → ℕ → Ty → Tree → List ℕ → Tree → Type 0
ElementMisfits program heap capacity type value path leaf = (new : Tree) → ¬ Assigns program (blocks_of heap.graph.objects) heap.graph.statics capacity type value path leaf new

-- the leaf at a path of an element may be put at this place
abbrev pub MayPutIn : Program → Layouts → Heap → ℕ → Ty → ℕ → Tree → List ℕ → LeafContent → Range → Place → Type 0
MayPutIn program layouts heap capacity type address value path leaf range place =
    MayPut program layouts (blocks_of heap.graph.objects) heap.graph.statics capacity type address value path leaf range place

-- each union around a place has an active member, or no number is written there
abbrev pub IsInActive : Place → LeafContent → Type 0
IsInActive place leaf = (place.active ≡ true) ⊎ (is_number_leaf leaf ≡ false)

-- the leaf at a path of the static record may be put at this place
abbrev pub MayPutRoot : Program → Layouts → Heap → List ℕ → LeafContent → Range → Place → Type 0
MayPutRoot program layouts heap path leaf range place = MayPutStatic program layouts (blocks_of heap.graph.objects) heap.graph.statics path leaf range place

-- no values are what the write of a leaf makes of the static record
abbrev pub StaticsMisfit : Program → Heap → List ℕ → Tree → Type 0
StaticsMisfit program heap path leaf = (news : Trees) → ¬ AssignsStatics program (blocks_of heap.graph.objects) heap.graph.statics path leaf news
