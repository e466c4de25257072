-- A value without pointers in which a leaf is replaced by no pointer has none; and what fits as a leaf is of no structure's type.
use Rattle.std.proofs.Common.{◌≡◌, ℕ, zero, suc, Bool, true, false, cond, IsTrue, List, [], ◌∷◌, ◌==◌, refl, ap, Some, None}
use Rattle.gt_types.specs.declared.types.Ty.{Ty}
use Rattle.gt_types.specs.declared.types.Ty.TheVariants as ty
use Rattle.gt_types.specs.declared.program.Program.{Program}
use Rattle.gt_types.specs.Shapes.{is_pointer, is_structure}
use Rattle.gt_layout.specs.declared.planes.Plane.{Plane}
use Rattle.gt_tree.specs.Trees.{Tree, Num, Null, To, Raw, Rec, Alt, Row, Trees, End, And, count, is_leaf, with_part, with_part_of, without_pointers, all_without_pointers}
use Rattle.gt_tree.specs.Blocks.{Blocks}
use Rattle.gt_tree.specs.Scopes.{Scope, eval_in}
use Rattle.gt_tree.specs.Fits.{Fits}
use Rattle.gt_tree.proofs.FixedParts.{may-pointer}
use Rattle.gt_value.specs.declared.places.Holder.{Holder}
use Rattle.gt_value.specs.Places.{Part, PartLies}

-- ---- values without pointers

plain-cond : (b : Bool) (member : ℕ) (tree new : Tree) → without_pointers tree ≡ tree → without_pointers new ≡ new
    → without_pointers (cond b (Alt (Some member) new) (Alt (Some member) tree)) ≡ cond b (Alt (Some member) new) (Alt (Some member) tree)
plain-cond true member tree new e f = ap (Alt (Some member)) f
plain-cond false member tree new e f = ap (Alt (Some member)) e

plain-and : (tree other : Tree) (trees others : Trees) → other ≡ tree → others ≡ trees → And other others ≡ And tree trees
plain-and tree other trees others e f = cc

mutual
  pub plain-with : (tree : Tree) (path : List ℕ) (leaf : Tree) → without_pointers tree ≡ tree → without_pointers leaf ≡ leaf → without_pointers (with_part tree path leaf) ≡ with_part tree path leaf
  plain-with tree [] leaf e f = f
  plain-with (Num n) (i ∷ path) leaf e f = e
  plain-with Null (i ∷ path) leaf e f = e
  plain-with (To id) (i ∷ path) leaf e f = e
  plain-with (Raw bytes) (i ∷ path) leaf e f = e
  plain-with (Rec trees) (i ∷ path) leaf e f = let plain : all_without_pointers trees ≡ trees = cc in ap Rec (plain-with_of trees i path leaf plain f)
  plain-with (Row trees) (i ∷ path) leaf e f = let plain : all_without_pointers trees ≡ trees = cc in ap Row (plain-with_of trees i path leaf plain f)
  plain-with (Alt (Some member) tree) (i ∷ path) leaf e f =
      let plain : without_pointers tree ≡ tree = cc in
      plain-cond (member == i) member tree (with_part tree path leaf) plain (plain-with tree path leaf plain f)
  plain-with (Alt None tree) (i ∷ path) leaf e f = let plain : without_pointers tree ≡ tree = cc in ap (Alt None) (plain-with tree path leaf plain f)

  plain-with_of : (trees : Trees) (i : ℕ) (path : List ℕ) (leaf : Tree) → all_without_pointers trees ≡ trees → without_pointers leaf ≡ leaf
      → all_without_pointers (with_part_of trees i path leaf) ≡ with_part_of trees i path leaf
  plain-with_of End i path leaf e f = refl
  plain-with_of (And tree trees) zero path leaf e f =
      let plain : without_pointers tree ≡ tree = cc in
      let rest : all_without_pointers trees ≡ trees = cc in
      plain-and (with_part tree path leaf) (without_pointers (with_part tree path leaf)) trees (all_without_pointers trees) (plain-with tree path leaf plain f) rest
  plain-with_of (And tree trees) (suc i) path leaf e f =
      let plain : without_pointers tree ≡ tree = cc in
      let rest : all_without_pointers trees ≡ trees = cc in
      plain-and tree (without_pointers tree) (with_part_of trees i path leaf) (all_without_pointers (with_part_of trees i path leaf)) plain (plain-with_of trees i path leaf rest f)

-- below a union without an active member, no part is active
pub inactive : {program : Program} {planes : List Plane} {scope : Scope} {h : Holder} {active : Bool} {bit : ℕ} {type : Ty} {tree : Tree} {path : List ℕ} {p : Part} → PartLies program planes scope h active bit type tree path p
    → active ≡ false → p.active ≡ false
inactive PartLies.whole e = e
inactive (PartLies.field has struct laid get spot there lies) e = inactive lies e
inactive (PartLies.member has union get lies) e = inactive lies e
inactive (PartLies.common has common lies) e = inactive lies refl
inactive (PartLies.array out there lies) e = inactive lies e
inactive (PartLies.tail out there lies) e = inactive lies e

pub count-with : (trees : Trees) (i : ℕ) (path : List ℕ) (leaf : Tree) → count (with_part_of trees i path leaf) ≡ count trees
count-with End i path leaf = refl
count-with (And tree trees) zero path leaf = refl
count-with (And tree trees) (suc i) path leaf = ap suc (count-with trees i path leaf)

-- ---- leaves

pointer-type : (type : Ty) → IsTrue (is_pointer type) → is_structure type ≡ false
pointer-type (ty.Node node desc) h = absurd (cc)
pointer-type type h = refl

pub leaf-type : {program : Program} {blocks : Blocks} {capacity : ℕ} {s : Scope} {type : Ty} {tree : Tree} → Fits program blocks capacity s type tree → IsTrue (is_leaf tree) → is_structure type ≡ false
leaf-type (Fits.number room) h = refl
leaf-type (Fits.bits room) h = refl
leaf-type (Fits.opaque long small) h = refl
leaf-type (Fits.null {type} p) h = pointer-type type p
leaf-type {program} {blocks} {s} (Fits.to {type} {id} m) h = pointer-type type (may-pointer blocks (eval_in program s) type id m)
leaf-type (Fits.struct has struct all) h = absurd (cc)
leaf-type (Fits.member has union active got fits) h = absurd (cc)
leaf-type (Fits.common has union active is plain fits) h = absurd (cc)
leaf-type (Fits.nothing has union active none) h = absurd (cc)
leaf-type (Fits.array e many each) h = absurd (cc)
leaf-type (Fits.tail e value le many each) h = absurd (cc)
