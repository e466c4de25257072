-- The contents of a typed heap: objects that name one another.
use Rattle.std.specs.Prelude.{ℕ, ◌==◌, pos, List, [], ◌∷◌, Option, option_map, find, length, sum, map}
use Rattle.gt_tree.specs.Trees.{Tree, Num, Row, Trees, End, And}
use Rattle.gt_tree.specs.Blocks.{Kind, Chars, Block, Blocks}

-- an object: a block under a name, what it holds, how many elements it has, how many have room at its end, and its value, which is
-- the row of its elements
pub record Object : Type 0 where
  pub id : ℕ
  pub kind : Kind
  pub count : ℕ
  pub capacity : ℕ
  pub value : Tree

-- the objects by rising address, the values of the roots in order, and for each cache its pairs of key and value in order
pub record Graph : Type 0 where
  pub objects : List Object
  pub statics : Trees
  pub pairs : List (List (ℕ × ℕ))

-- the object of a name
abbrev pub object_of : List Object → ℕ → Option Object
object_of objects id = find (λ o. o.id == id) objects

-- the bytes that values are, one after another
abbrev pub bytes_in : Trees → List ℕ
bytes_in (And (Num (pos n)) trees) = n ∷ bytes_in trees
bytes_in (And tree trees) = bytes_in trees
bytes_in End = []

abbrev pub elements_in : Tree → Trees
elements_in (Row trees) = trees
elements_in tree = End

abbrev pub chars_in : Kind → Tree → List ℕ
chars_in Chars value = bytes_in (elements_in value)
chars_in kind value = []

-- what pointers need to know of an object
abbrev pub block_of : Object → Block
block_of o = record { kind = o.kind; count = o.count; chars = chars_in o.kind o.value }

-- the objects as blocks under their names
abbrev pub blocks_of : List Object → Blocks
blocks_of objects id = option_map block_of (object_of objects id)

-- how many pairs all caches have together
abbrev pub pairs_in : List (List (ℕ × ℕ)) → ℕ
pairs_in caches = sum (map (λ pairs. length pairs) caches)
