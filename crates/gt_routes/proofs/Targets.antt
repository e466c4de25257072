-- What a pointer names.
use Rattle.std.proofs.Common.{◌≡◌, ℕ, true, false, List, refl, ap, sym, subst, Some, ◌⊎◌, inl, inr}
use Rattle.gt_types.specs.Shapes.{is_pointer}
use Rattle.gt_tree.specs.Trees.{Tree, Num, Null, To, Raw, Rec, Alt, Row, is_word}
use Rattle.gt_tree.specs.Blocks.{Block, Blocks}
use Rattle.gt_tree.proofs.FixedParts as fixed
use Rattle.gt_value.specs.declared.cursors.Cursor.{Cursor}
use Rattle.gt_value.specs.declared.places.LeafContent.TheVariants as content
use Rattle.gt_value.specs.Places.{Part, IsContentOf}
use Rattle.gt_value.specs.Cursors.{Frame}
use Rattle.gt_routes.specs.Steps.{StandsAt}

-- a pointer is null or names a block
abbrev IsNamed : Tree → Type 0
IsNamed tree = (tree ≡ Null) ⊎ ((id : ℕ) × (tree ≡ To id))

named-of : (blocks : Blocks) (tree : Tree) → (tree ≡ Null) ⊎ ((id : ℕ) × (tree ≡ To id) × (b : Block) × (blocks id ≡ Some b)) → IsNamed tree
named-of blocks tree (inl null) = inl null
named-of blocks tree (inr (id, to, b, there)) = inr (id, to)

named-here : (at : Frame) (value : Part) (path : List ℕ) (c : Cursor) (here : StandsAt at value path c) → is_pointer c.ty.now ≡ true → IsNamed here.here.p.tree
named-here at value path c here pointer = named-of here.here.stands.0.context.blocks here.here.p.tree (fixed.is-pointer c.ty.now here.here.p.tree pointer here.here.stands.0.fits)

word-of : (tree : Tree) → IsNamed tree → is_word tree ≡ true
word-of tree (inl e) = ap is_word e
word-of tree (inr (id, e)) = ap is_word e

-- a pointer is a leaf
pub pointer-leaf : (at : Frame) (value : Part) (path : List ℕ) (c : Cursor) (here : StandsAt at value path c) → is_pointer c.ty.now ≡ true → is_word here.here.p.tree ≡ false → ⊥
pointer-leaf at value path c here pointer no_word = let word = word-of here.here.p.tree (named-here at value path c here pointer) in cc

pub null-content : (tree : Tree) → IsContentOf content.Null tree → tree ≡ Null
null-content Null e = refl
null-content (Num n) e = absurd e
null-content (To id) e = absurd e
null-content (Raw bytes) e = absurd e
null-content (Rec trees) e = absurd e
null-content (Alt member tree) e = absurd e
null-content (Row trees) e = absurd e

pub to-content : (tree : Tree) (address : ℕ) → IsContentOf (content.To address) tree → tree ≡ To address
to-content (To id) address e = ap To (sym e)
to-content Null address e = absurd e
to-content (Num n) address e = absurd e
to-content (Raw bytes) address e = absurd e
to-content (Rec trees) address e = absurd e
to-content (Alt member tree) address e = absurd e
to-content (Row trees) address e = absurd e

-- a pointer holds no number
pub number-content : (at : Frame) (value : Part) (path : List ℕ) (c : Cursor) (here : StandsAt at value path c) → is_pointer c.ty.now ≡ true → (n : Rattle.std.specs.Prelude.ℤ) → IsContentOf (content.Num n) here.here.p.tree → ⊥
number-content at value path c here pointer n e = go here.here.p.tree (named-here at value path c here pointer) e
  where
    go : (tree : Tree) → IsNamed tree → IsContentOf (content.Num n) tree → ⊥
    go tree (inl e) h = subst (IsContentOf (content.Num n)) e h
    go tree (inr (id, e)) h = subst (IsContentOf (content.Num n)) e h
