-- Two values that differ in one leaf, which no expression reads.
use Rattle.std.proofs.Common.{◌≡◌, ℕ, zero, suc, Bool, true, false, cond, IsTrue, List, [], ◌∷◌, refl, sym, subst, Some, None, Option}
use Rattle.std.specs.Prelude.{slice_get}
use Rattle.gt_types.specs.declared.expressions.Expr.{Expr}
use Rattle.gt_types.specs.declared.types.TypeId.{TypeId}
use Rattle.gt_types.specs.declared.types.Ty.{Ty, out-Ty}
use Rattle.gt_types.specs.declared.types.Ty.TheOpen as part
use Rattle.gt_types.specs.declared.types.Ty.TheVariants as ty
use Rattle.gt_types.specs.declared.program.Field.{Field}
use Rattle.gt_types.specs.declared.program.Structure.{Structure}
use Rattle.gt_types.specs.declared.program.Program.{Program}
use Rattle.gt_types.specs.Shapes.{is_structure}
use Rattle.gt_types.specs.Contains.{HasStructure}
use Rattle.gt_types.specs.Unions.{IsCommon}
use Rattle.gt_layout.specs.declared.planes.Plane.{Plane}
use Rattle.gt_tree.specs.Trees.{Tree, Rec, Alt, Row, Trees, End, And, tree_at, is_leaf, with_part, with_part_of}
use Rattle.gt_tree.specs.Fits.{types_of}
use Rattle.gt_tree.specs.Scopes.{Scope}
use Rattle.gt_tree.proofs.PathBegins.{same-number}
use Rattle.gt_tree.proofs.PathParts.{get-map}
use Rattle.gt_tree.proofs.FixedValues.{in-array, in-tail}
use Rattle.gt_value.specs.declared.places.Holder.{Holder}
use Rattle.gt_value.specs.declared.places.Holder.TheVariants as lies_in
use Rattle.gt_value.specs.Places.{Part, PartLies}
use Rattle.gt_leaf.specs.Unread.{Around, with_structure, structures_from, IsUnread}
use Rattle.gt_leaf.proofs.Arounds.{Covers, covers-all, IsUnreadInside, unread-inside, inside-covers}
use Rattle.gt_leaf.proofs.PlainParts.{inactive}

mutual
  -- two values of a type that lies in this, inside these structures, differ in the one leaf at a path, which no expression reads
  pub data Swap (program : Program) : Around → Holder → Ty → List ℕ → Tree → Tree → Type 0 where
    replaced : {around : Around} {h : Holder} {type : Ty} {a b : Tree} → IsUnreadInside program around h → IsTrue (is_leaf a) → IsTrue (is_leaf b) → is_structure type ≡ false → Swap program around h type [] a b
    in_struct : {around : Around} {h : Holder} {node : TypeId} {desc : Option Expr} {s : Structure} {i : ℕ} {path : List ℕ} {old new : Trees} → HasStructure program node s → s.is_union ≡ false
        → OneSwaps program (with_structure program around node (i ∷ path)) (lies_in.Field node) (types_of s.fields) i path old new → Swap program around h (ty.Node node desc) (i ∷ path) (Rec old) (Rec new)
    in_member : {around : Around} {h : Holder} {node : TypeId} {desc : Option Expr} {s : Structure} {i : ℕ} {path : List ℕ} {f : Field} {old new : Tree} → HasStructure program node s → s.is_union ≡ true
        → slice_get s.fields i ≡ Some f → Swap program (with_structure program around node (i ∷ path)) (lies_in.Field node i) f.ty path old new → Swap program around h (ty.Node node desc) (i ∷ path) (Alt (Some i) old) (Alt (Some i) new)
    in_common : {around : Around} {h : Holder} {node common : TypeId} {desc : Option Expr} {s : Structure} {i : ℕ} {path : List ℕ} {old new : Tree} → HasStructure program node s → IsCommon program s common
        → Swap program (with_structure program around node (i ∷ path)) h (ty.Node common None) path old new → Swap program around h (ty.Node node desc) (i ∷ path) (Alt None old) (Alt None new)
    in_row : {around : Around} {h : Holder} {type : Ty} {path : List ℕ} {old new : Trees} → is_structure type ≡ false → Swap program around h type path (Row old) (Row new)

  -- one of the values of these types differs so, that at this place
  pub data OneSwaps (program : Program) : Around → (ℕ → Holder) → List Ty → ℕ → List ℕ → Trees → Trees → Type 0 where
    at_first : {around : Around} {at : ℕ → Holder} {type : Ty} {types : List Ty} {path : List ℕ} {old new : Tree} {trees : Trees} → Swap program around (at zero) type path old new
        → OneSwaps program around at (type ∷ types) zero path (And old trees) (And new trees)
    at_later : {around : Around} {at : ℕ → Holder} {type : Ty} {types : List Ty} {i : ℕ} {path : List ℕ} {tree : Tree} {olds news : Trees} → OneSwaps program around (λ i. at (suc i)) types i path olds news
        → OneSwaps program around at (type ∷ types) (suc i) path (And tree olds) (And tree news)

-- ---- the value with the part at a path replaced

pub put-swaps : (program : Program) (around : Around) (at : ℕ → Holder) (types : List Ty) (trees : Trees) (i : ℕ) (type : Ty) (tree : Tree) (path : List ℕ) (leaf : Tree) → slice_get types i ≡ Some type → tree_at trees i ≡ Some tree
    → Swap program around (at i) type path tree (with_part tree path leaf) → OneSwaps program around at types i path trees (with_part_of trees i path leaf)
put-swaps program around at [] trees i type tree path leaf e there swap = absurd (cc)
put-swaps program around at (t ∷ ts) End i type tree path leaf e there swap = absurd (cc)
put-swaps program around at (t ∷ ts) (And x xs) zero type tree path leaf e there swap =
    let same : type ≡ t = cc in
    let equal : tree ≡ x = cc in
    OneSwaps.at_first (subst (λ y. Swap program around (at zero) t path y (with_part y path leaf)) equal (subst (λ y. Swap program around (at zero) y path tree (with_part tree path leaf)) same swap))
put-swaps program around at (t ∷ ts) (And x xs) (suc i) type tree path leaf e there swap = OneSwaps.at_later (put-swaps program around (λ j. at (suc j)) ts xs i type tree path leaf e there swap)

no-structure : (type : Ty) (b : Bool) → is_structure type ≡ b → ¬ (is_structure type ≡ true) → is_structure type ≡ false
no-structure type true e not = absurd (not e)
no-structure type false e not = e

pub array-type : (type elem : Ty) (n : ℕ) → out-Ty type ≡ part.Arr n elem → is_structure type ≡ false
array-type type elem n e = no-structure type (is_structure type) refl (λ h. in-array type elem n h e)

pub tail-type : (type elem : Ty) (length : Expr) → out-Ty type ≡ part.Tail length elem → is_structure type ≡ false
tail-type type elem length e = no-structure type (is_structure type) refl (λ h. in-tail type elem length h e)

-- the member at a path is the active one
pub with-member : (i : ℕ) (tree : Tree) (path : List ℕ) (leaf : Tree) → Alt (Some i) (with_part tree path leaf) ≡ with_part (Alt (Some i) tree) (i ∷ path) leaf
with-member i tree path leaf = sym (subst (λ b. cond b (Alt (Some i) (with_part tree path leaf)) (Alt (Some i) tree) ≡ Alt (Some i) (with_part tree path leaf)) (sym (same-number i)) refl)

module _ {program : Program} {planes : List Plane} {around : Around} where
  pub swapped : {scope : Scope} {h : Holder} {active : Bool} {bit : ℕ} {type : Ty} {tree : Tree} {path : List ℕ} {p : Part} → PartLies program planes scope h active bit type tree path p → (inner : Around) (leaf : Tree)
      → IsUnread program around p.active p.holder → Covers around p.active (structures_from program inner (Some type) path) → IsTrue (is_leaf p.tree) → IsTrue (is_leaf leaf) → is_structure p.type ≡ false
      → Swap program inner h type path tree (with_part tree path leaf)
  swapped {p} PartLies.whole inner leaf unread covers a b plain = Swap.replaced (unread-inside program p.holder around inner p.active covers unread) a b plain
  swapped (PartLies.field {i} {node} {desc} {s} {f} {trees} {tree} {path} has struct laid get spot there lies) inner leaf unread covers a b plain =
      let within = with_structure program inner node (i ∷ path) in
      Swap.in_struct has struct
      (put-swaps program within (lies_in.Field node) (types_of s.fields) trees i f.ty tree path leaf (get-map (λ g. g.ty) s.fields i f get) there
      (swapped lies within leaf unread (inside-covers program inner node desc s f i path has get covers) a b plain))
  swapped {h} (PartLies.member {i} {node} {desc} {s} {f} {tree} {path} has union get lies) inner leaf unread covers a b plain =
      let within = with_structure program inner node (i ∷ path) in
      subst (λ y. Swap program inner h (ty.Node node desc) (i ∷ path) (Alt (Some i) tree) y) (with-member i tree path leaf)
      (Swap.in_member has union get (swapped lies within leaf unread (inside-covers program inner node desc s f i path has get covers) a b plain))
  swapped (PartLies.common {i} {node} {path} has common lies) inner leaf unread covers a b plain =
      Swap.in_common has common (swapped lies (with_structure program inner node (i ∷ path)) leaf unread (covers-all _ _ _ (inactive lies refl)) a b plain)
  swapped (PartLies.array {n} {type} {elem} e there lies) inner leaf unread covers a b plain = Swap.in_row (array-type type elem n e)
  swapped (PartLies.tail {length} {type} {elem} e there lies) inner leaf unread covers a b plain = Swap.in_row (tail-type type elem length e)

-- values of a structure differ at some place of it
pub swap-place : {program : Program} {around : Around} {h : Holder} {node : TypeId} {desc : Option Expr} {path : List ℕ} {a b : Tree} → Swap program around h (ty.Node node desc) path a b → (i : ℕ) × (rest : List ℕ) × (path ≡ i ∷ rest)
swap-place (Swap.replaced unread a b plain) = absurd (cc)
swap-place (Swap.in_struct {i} {path} has struct one) = (i, path, refl)
swap-place (Swap.in_member {i} {path} has union get swap) = (i, path, refl)
swap-place (Swap.in_common {i} {path} has common swap) = (i, path, refl)
swap-place (Swap.in_row plain) = absurd (cc)
