-- The edges of leaves: none of numbers.
use Rattle.std.proofs.Common.{◌≡◌, ℕ, ◌+◌, ◌/◌, Bool, true, false, cond, List, [], ◌∷◌, refl, ap, ◌∙◌, Option, Some, None}
use Rattle.std.specs.Prelude.{pos}
use Rattle.std.specs.List.{filter, cons_option}
use Rattle.gt_types.specs.declared.types.Scalar.{Scalar}
use Rattle.gt_types.specs.declared.types.Ty.{Ty}
use Rattle.gt_types.specs.declared.types.Ty.TheVariants as ty
use Rattle.gt_types.specs.declared.types.Ty.TheVariants.{outs-Num, outs-Bits, outs-Opaque}
use Rattle.gt_types.specs.declared.types.TypeId.{TypeId}
use Rattle.gt_types.specs.declared.expressions.Expr.{Expr}
use Rattle.gt_types.specs.declared.program.Program.{Program}
use Rattle.gt_layout.specs.declared.planes.Plane.{Plane}
use Rattle.gt_tree.specs.Trees.{Tree, Null, To, Alt}
use Rattle.gt_tree.specs.Blocks.{Block, Blocks}
use Rattle.gt_tree.specs.Leaves.{Leaf, Content, leaf, Number, Pointer, is_number, byte_leaves, HasLeaves}
use Rattle.gt_tree.specs.Scopes.{◌then◌}
use Rattle.gt_edges.specs.Edges.{edge_to, edge_of, edges_at}

module _ (program : Program) (blocks : Blocks) (base : ℕ) where
  number-content : (c : Content) → elim c as (λ _. Bool) [ Number n ↦ true | Pointer name ↦ false ] ≡ true → elim c as (λ _. Option ℕ) [ Number n ↦ None | Pointer name ↦ name ] ≡ None
  number-content (Number n) e = refl
  number-content (Pointer name) e = absurd (cc)

  number-none : (l : Leaf) → is_number l ≡ true → edge_of program blocks base l ≡ None
  number-none l e = ap (λ o. o then λ id. blocks id then λ b. Some (edge_to program (base + l.at / 8) id b)) (number-content l.content e)

  no-edge : (l : Leaf) (ls : List Leaf) → edge_of program blocks base l ≡ None → edges_at program blocks base ls ≡ [] → edges_at program blocks base (l ∷ ls) ≡ []
  no-edge l ls e rest = ap (λ o. cons_option o (edges_at program blocks base ls)) e ∙ rest

  cond-number : (b : Bool) (l : Leaf) (ls : List Leaf) → is_number l ≡ b → edges_at program blocks base ls ≡ [] → edges_at program blocks base (cond b (l ∷ ls) ls) ≡ []
  cond-number true l ls e rest = no-edge l ls (number-none l e) rest
  cond-number false l ls e rest = rest

  -- the numbers among leaves have no edges
  numbers-none : (ls : List Leaf) → edges_at program blocks base (filter is_number ls) ≡ []
  numbers-none [] = refl
  numbers-none (l ∷ ls) = cond-number (is_number l) l (filter is_number ls) refl (numbers-none ls)

  bytes-none : (at : ℕ) (bytes : List ℕ) → edges_at program blocks base (byte_leaves at bytes) ≡ []
  bytes-none at [] = refl
  bytes-none at (byte ∷ bytes) = no-edge (leaf at 8 (Number (pos byte))) (byte_leaves (at + 8) bytes) refl (bytes-none (at + 8) bytes)

  module _ (planes : List Plane) where
    -- numbers, bit-fields and bytes that are never scanned have none
    pub number-edges : (at : ℕ) (scalar : Scalar) (tree : Tree) (ls : List Leaf) → HasLeaves program planes at (ty.Num scalar) tree ls → edges_at program blocks base ls ≡ []
    number-edges at scalar tree ls HasLeaves.number = refl
    number-edges at scalar tree ls (HasLeaves.null p) = absurd (cc)
    number-edges at scalar tree ls (HasLeaves.to p) = absurd (cc)
    number-edges at scalar tree ls (HasLeaves.array e each) = let o = outs-Num scalar in absurd (cc)
    number-edges at scalar tree ls (HasLeaves.tail e each) = let o = outs-Num scalar in absurd (cc)

    pub bits-edges : (at : ℕ) (unit : Scalar) (width : ℕ) (tree : Tree) (ls : List Leaf) → HasLeaves program planes at (ty.Bits unit width) tree ls → edges_at program blocks base ls ≡ []
    bits-edges at unit width tree ls HasLeaves.bits = refl
    bits-edges at unit width tree ls (HasLeaves.null p) = absurd (cc)
    bits-edges at unit width tree ls (HasLeaves.to p) = absurd (cc)
    bits-edges at unit width tree ls (HasLeaves.array e each) = let o = outs-Bits unit width in absurd (cc)
    bits-edges at unit width tree ls (HasLeaves.tail e each) = let o = outs-Bits unit width in absurd (cc)

    pub opaque-edges : (at size align : ℕ) (tree : Tree) (ls : List Leaf) → HasLeaves program planes at (ty.Opaque size align) tree ls → edges_at program blocks base ls ≡ []
    opaque-edges at size align tree ls (HasLeaves.opaque {bytes}) = bytes-none at bytes
    opaque-edges at size align tree ls (HasLeaves.null p) = absurd (cc)
    opaque-edges at size align tree ls (HasLeaves.to p) = absurd (cc)
    opaque-edges at size align tree ls (HasLeaves.array e each) = let o = outs-Opaque size align in absurd (cc)
    opaque-edges at size align tree ls (HasLeaves.tail e each) = let o = outs-Opaque size align in absurd (cc)

    -- where no member of a union is active, its leaves are numbers
    pub nothing-edges : (at : ℕ) (node : TypeId) (desc : Option Expr) (tree : Tree) (ls : List Leaf) → HasLeaves program planes at (ty.Node node desc) (Alt None tree) ls → edges_at program blocks base ls ≡ []
    nothing-edges at node desc tree ls (HasLeaves.common {leaves} h u c part) = numbers-none leaves
    nothing-edges at node desc tree ls (HasLeaves.nothing h u none) = refl

    -- null has none, and another pointer has one
    pub null-edges : (at : ℕ) (type : Ty) (ls : List Leaf) → HasLeaves program planes at type Null ls → edges_at program blocks base ls ≡ []
    null-edges at type ls (HasLeaves.null p) = refl

    pub to-edges : (at : ℕ) (type : Ty) (id : ℕ) (b : Block) (ls : List Leaf) → HasLeaves program planes at type (To id) ls → blocks id ≡ Some b → edges_at program blocks base ls ≡ edge_to program (base + at / 8) id b ∷ []
    to-edges at type id b ls (HasLeaves.to p) e = ap (λ o. cons_option (o then λ c. Some (edge_to program (base + at / 8) id c)) []) e
