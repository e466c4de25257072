-- No promise: what is read at the end of a path and in whole objects, as the functions inside the crate tell it.
use Rattle.std.specs.Prelude.{◌≡◌, ◌<◌, ℕ, List, [], ◌∷◌, Option, Some, None, length, slice_get}
use Rattle.gt_types.specs.declared.program.Program.{Program}
use Rattle.gt_layout.specs.declared.planes.Layouts.{Layouts}
use Rattle.gt_tree.specs.Trees.{part_at}
use Rattle.gt_value.specs.declared.values.Value.{Value}
use Rattle.gt_value.specs.Values.{tree_of}
use Rattle.gt_graph.specs.Objects.{Object, object_of}
use Rattle.gt_graph.specs.Good.{Heap}
use Rattle.gt_objects.specs.declared.objects.Objects.{Objects}
use Rattle.gt_objects.specs.Holding.{IsHeapOf}
use Rattle.gt_next.specs.Spots.{Standing}
use Rattle.gt_next.specs.Leaves.{Got, IsNumber, IsNull, IsObject, Reads}
use Rattle.gt_asking.specs.declared.reading.Read.{Read}
use Rattle.gt_asking.specs.declared.reading.Read.TheVariants as read

abbrev pub got_of : Read → Got
got_of (read.Number n) = IsNumber n
got_of read.Null = IsNull
got_of (read.Object address) = IsObject address

-- what is read there, or that nothing is
abbrev pub ReadsAs : Standing → Option Read → Type 0
ReadsAs what None = (got : Got) → ¬ Reads what got
ReadsAs what (Some r) = Reads what (got_of r)

-- the object at an address has an element at a place
abbrev pub HasElement : Heap → (address place : ℕ) → Type 0
HasElement heap address place = (o : Object) × (object_of heap.graph.objects address ≡ Some o) × (place < o.count)

-- the object at an address has so many elements
abbrev pub HasElements : Heap → (address count : ℕ) → Type 0
HasElements heap address count = (o : Object) × (object_of heap.graph.objects address ≡ Some o) × (o.count ≡ count)

-- so many values are the first elements of the object at an address
abbrev pub AreElements : Program → Layouts → Objects → (address count : ℕ) → List Value → Type 0
AreElements program layouts objects address count values =
    (length values ≡ count) × ((heap : Heap) (o : Object) → IsHeapOf program layouts objects heap → object_of heap.graph.objects address ≡ Some o → (i : ℕ) (v : Value) → slice_get values i ≡ Some v → part_at o.value (i ∷ []) ≡ Some (tree_of v))
