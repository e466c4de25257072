-- The values of the typed-object machine, as trees.
use Rattle.std.specs.Prelude.{◌≡◌, ℕ, zero, suc, ◌==◌, cond, Bool, true, false, ℤ, pos, List, [], ◌∷◌, ◌++◌, Option, Some, None, All, length}

mutual
  -- a number; a pointer that is null, or names a block; bytes that are never scanned; a struct's fields in order; a union's
  -- active member, or none, with what is there; the elements of an array or of a block
  pub data Tree : Type 0 where
    Num : ℤ → Tree
    Null : Tree
    To : ℕ → Tree
    Raw : List ℕ → Tree
    Rec : Trees → Tree
    Alt : Option ℕ → Tree → Tree
    Row : Trees → Tree

  -- values one after another
  pub data Trees : Type 0 where
    End : Trees
    And : Tree → Trees → Trees

-- how many there are
abbrev pub count : Trees → ℕ
count End = zero
count (And tree trees) = suc (count trees)

-- the value at a place
abbrev pub tree_at : Trees → ℕ → Option Tree
tree_at End i = None
tree_at (And tree trees) zero = Some tree
tree_at (And tree trees) (suc i) = tree_at trees i

abbrev mutual
  -- The part of a value at a path, from the outside in: places of fields, of the active member and of elements. Where no member
  -- of a union is active, each place leads to its common structure.
  pub part_at : Tree → List ℕ → Option Tree
  part_at tree [] = Some tree
  part_at (Rec trees) (i ∷ path) = part_of trees i path
  part_at (Row trees) (i ∷ path) = part_of trees i path
  part_at (Alt (Some member) tree) (i ∷ path) = cond (member == i) (part_at tree path) None
  part_at (Alt None tree) (i ∷ path) = part_at tree path
  part_at tree (i ∷ path) = None

  -- the same in the value at a place of a list
  pub part_of : Trees → ℕ → List ℕ → Option Tree
  part_of End i path = None
  part_of (And tree trees) zero path = part_at tree path
  part_of (And tree trees) (suc i) path = part_of trees i path

abbrev mutual
  -- the value with another part at a path
  pub with_part : Tree → List ℕ → Tree → Tree
  with_part tree [] part = part
  with_part (Rec trees) (i ∷ path) part = Rec (with_part_of trees i path part)
  with_part (Row trees) (i ∷ path) part = Row (with_part_of trees i path part)
  with_part (Alt (Some member) tree) (i ∷ path) part = cond (member == i) (Alt (Some member) (with_part tree path part)) (Alt (Some member) tree)
  with_part (Alt None tree) (i ∷ path) part = Alt None (with_part tree path part)
  with_part tree (i ∷ path) part = tree

  -- the same in the value at a place of a list
  pub with_part_of : Trees → ℕ → List ℕ → Tree → Trees
  with_part_of End i path part = End
  with_part_of (And tree trees) zero path part = And (with_part tree path part) trees
  with_part_of (And tree trees) (suc i) path part = And tree (with_part_of trees i path part)

abbrev mutual
  -- each leaf is 0, null or zero bytes
  pub IsZero : Tree → Type 0
  IsZero (Num n) = n ≡ pos 0
  IsZero Null = Unit {0}
  IsZero (To id) = ⊥
  IsZero (Raw bytes) = All (λ byte. byte ≡ 0) bytes
  IsZero (Rec trees) = AreZero trees
  IsZero (Alt member tree) = IsZero tree
  IsZero (Row trees) = AreZero trees

  pub AreZero : Trees → Type 0
  AreZero End = Unit {0}
  AreZero (And tree trees) = IsZero tree × AreZero trees

abbrev mutual
  -- the value in which each pointer is null
  pub without_pointers : Tree → Tree
  without_pointers (To id) = Null
  without_pointers (Rec trees) = Rec (all_without_pointers trees)
  without_pointers (Alt member tree) = Alt member (without_pointers tree)
  without_pointers (Row trees) = Row (all_without_pointers trees)
  without_pointers tree = tree

  pub all_without_pointers : Trees → Trees
  all_without_pointers End = End
  all_without_pointers (And tree trees) = And (without_pointers tree) (all_without_pointers trees)

-- a value without parts of its own
abbrev pub is_leaf : Tree → Bool
is_leaf (Rec trees) = false
is_leaf (Alt member tree) = false
is_leaf (Row trees) = false
is_leaf tree = true

-- a leaf that can be read and written: one number or one pointer. Eight bytes that are never scanned are one, other sizes are none.
abbrev pub is_word : Tree → Bool
is_word (Num n) = true
is_word Null = true
is_word (To id) = true
is_word (Raw bytes) = length bytes == 8
is_word tree = false

abbrev mutual
  -- the names in the pointers of a value, in order: its edges. Bytes that are never scanned have none.
  pub edges : Tree → List ℕ
  edges (To id) = id ∷ []
  edges (Rec trees) = all_edges trees
  edges (Alt member tree) = edges tree
  edges (Row trees) = all_edges trees
  edges tree = []

  pub all_edges : Trees → List ℕ
  all_edges End = []
  all_edges (And tree trees) = edges tree ++ all_edges trees
