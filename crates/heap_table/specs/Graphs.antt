-- The graph for which plain data of a heap stand.
use Rattle.std.specs.Prelude.{◌≡◌, ◌<◌, ◌==◌, ℕ, ◌^◌, pos, Bool, true, false, ◌&&◌, IsTrue, nat_lt, List, map, All}
use Rattle.gt_tree.specs.Trees.{Tree, Num, Row, Trees, End, And, count}
use Rattle.gt_tree.specs.Blocks.{Kind, Chars, Blocks}
use Rattle.gt_tree.specs.Fits.{EndsInZero}
use Rattle.gt_tree.specs.FixedLaws.{AreAddresses}
use Rattle.gt_value.specs.Bytes.{itself}
use Rattle.gt_value.specs.declared.values.Value.{Value}
use Rattle.gt_value.specs.Names.{kind_of}
use Rattle.gt_value.specs.Values.{trees, tree_of}
use Rattle.gt_types.specs.declared.program.Cache.{Cache}
use Rattle.gt_graph.specs.Good.{IsSingle}
use Rattle.gt_graph.specs.Objects as typed
use Rattle.gt_graph.specs.Objects.{blocks_of}
use Rattle.heap_table.specs.declared.graphs.Object.{Object}
use Rattle.heap_table.specs.declared.graphs.Pair.{Pair}
use Rattle.heap_table.specs.declared.graphs.Graph.{Graph}

-- the object that plain data are
abbrev pub object_of : Object → typed.Object
object_of o = record { id = o.id; kind = kind_of o.kind; count = o.count; capacity = o.capacity; value = tree_of o.value }

abbrev pub objects_of : List Object → List typed.Object
objects_of objects = map object_of objects

-- the objects as the blocks that pointers name
abbrev pub blocks_in : List Object → Blocks
blocks_in objects = blocks_of (objects_of objects)

-- the pair of names
abbrev pub pair_of : Pair → ℕ × ℕ
pair_of pair = (pair.key, pair.value)

abbrev pub pairs_of : List Pair → List (ℕ × ℕ)
pairs_of pairs = map pair_of pairs

-- the values one after another
abbrev pub values_of : List Value → Trees
values_of values = trees (map tree_of values)

abbrev pub graph_of : Graph → typed.Graph
graph_of g = record {
  objects = objects_of g.objects.items;
  statics = values_of g.statics.items;
  pairs = map (λ pairs. pairs_of pairs.items) g.caches.items;
}

-- a pair is one of a cache's types
pub record IsPairOf (objects : List typed.Object) (cache : Cache) (pair : Pair) : Type 0 where
  pub key : IsSingle objects pair.key cache.key
  pub value : IsSingle objects pair.value cache.value

-- ---- what is asked of objects before their blocks are named

-- an object has a name of 64 bits that is not null
pub record HasName (o : Object) : Type 0 where
  pub not_null : 0 < o.id
  pub small : o.id < 2 ^ 64

-- a value is a byte
abbrev pub IsByte : Tree → Type 0
IsByte tree = (n : ℕ) × (n < 256) × (tree ≡ Num (pos n))

abbrev pub AreBytes : Trees → Type 0
AreBytes End = Unit {0}
AreBytes (And tree trees) = IsByte tree × AreBytes trees

-- a value is a row of so many bytes, of which the last is a zero
pub record IsText (n : ℕ) (value : Tree) : Type 0 where
  pub bytes : Trees
  pub row : value ≡ Row bytes
  pub as_many : count bytes ≡ n
  pub each : AreBytes bytes
  pub ends : EndsInZero bytes

-- an object of characters is a text
pub record HasText (o : Object) : Type 0 where
  pub text : kind_of o.kind ≡ Chars → IsText o.count (tree_of o.value)

-- ---- no promise: the same as tests

abbrev pub is_byte : Tree → Bool
is_byte (Num (pos n)) = nat_lt n 256
is_byte tree = false

abbrev pub are_bytes : Trees → Bool
are_bytes End = true
are_bytes (And tree trees) = is_byte tree && are_bytes trees

abbrev pub is_nought : Tree → Bool
is_nought (Num (pos n)) = n == 0
is_nought tree = false

abbrev pub end_in_zero : Trees → Bool
end_in_zero End = false
end_in_zero (And tree End) = is_nought tree
end_in_zero (And tree (And next trees)) = end_in_zero (And next trees)

abbrev pub is_text : ℕ → Tree → Bool
is_text n (Row trees) = (count trees == n) && (are_bytes trees && end_in_zero trees)
is_text n tree = false

abbrev pub is_text_as : Kind → ℕ → Tree → Bool
is_text_as Chars n tree = is_text n tree
is_text_as kind n tree = true

-- objects that can be blocks under their names
pub record AreNamed (objects : List Object) : Type 0 where
  pub addresses : AreAddresses (blocks_in objects) itself
  pub texts : All (λ o. IsTrue (is_text_as (kind_of o.kind) o.count (tree_of o.value))) objects
