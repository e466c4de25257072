-- What is known of objects by their addresses.
use Rattle.std.specs.Prelude.{◌≡◌, ℕ, List, Option, Some, None}
use Rattle.gt_value.specs.Names.{kind_of}
use Rattle.gt_graph.specs.Objects.{Object, object_of}
use Rattle.gt_objects.specs.declared.objects.Known.{Known}

-- what is known of an object: what it holds, how many elements, and for how many there is room at its end
pub record IsKnown (o : Object) (known : Known) : Type 0 where
  pub kind : o.kind ≡ kind_of known.kind
  pub count : o.count ≡ known.count
  pub capacity : o.capacity ≡ known.capacity

-- what is answered of an address: what is known of the object that has it as its name, or that none has
abbrev pub IsKnownAt : List Object → ℕ → Option Known → Type 0
IsKnownAt objects address None = object_of objects address ≡ None
IsKnownAt objects address (Some known) = (o : Object) × (object_of objects address ≡ Some o) × IsKnown o known
