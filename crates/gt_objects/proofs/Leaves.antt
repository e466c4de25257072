-- Bytes stand for a value that fits in the same way wherever blocks lie that it does not name.
use Rattle.std.proofs.Common.{◌≡◌, ℕ, ◌+◌, ◌-◌, ◌*◌, ◌&&◌, ◌||◌, nat_le, nat_lt, List, [], ◌∷◌, Some, None, refl, ap, ap₂, ◌∙◌}
use Rattle.std.specs.Prelude.{All, pos}
use Rattle.std.specs.List.{filter, list_any}
use Rattle.std.proofs.lemmas.List.Elements.{All-nil, All-cons, All-head, All-tail, All-append}
use Rattle.gt_types.specs.declared.types.Ty.{Ty}
use Rattle.gt_types.specs.declared.program.Program.{Program}
use Rattle.gt_layout.specs.declared.planes.Plane.{Plane}
use Rattle.gt_layout.specs.declared.planes.FieldSpot.{FieldSpot}
use Rattle.gt_layout.specs.Storages.{bytes_of}
use Rattle.gt_tree.specs.Trees.{Tree, To, Rec, Alt, Trees}
use Rattle.gt_tree.specs.Blocks.{Block, Blocks}
use Rattle.gt_tree.specs.Scopes.{Scope, inside, eval_in}
use Rattle.gt_tree.specs.Fits.{Fits, AllFit, EachFits}
use Rattle.gt_tree.specs.Leaves.{Leaf, leaf, Content, Number, Pointer, byte_leaves, is_number, bit_of, content_bits, is_set_in, HasLeaves, FieldsHaveLeaves, EachHasLeaves, Stand}
use Rattle.gt_tree.proofs.Fitting.{fits-struct, fits-member, fits-array, fits-tail, fits-more, fits-one}
use Rattle.gt_tree.proofs.FixedParts.{named}

module _ (a b : ℕ → ℕ) where
  -- the bits of a leaf are the same, by the one addresses and by the others
  abbrev pub IsSame : Leaf → Type 0
  IsSame l = content_bits a l.width l.content ≡ content_bits b l.width l.content

  -- blocks have the same addresses
  abbrev pub Agree : Blocks → Type 0
  Agree blocks = (id : ℕ) (block : Block) → blocks id ≡ Some block → a id ≡ b id

  same_bytes : (at : ℕ) (bytes : List ℕ) → All IsSame (byte_leaves at bytes)
  same_bytes at [] = All-nil IsSame
  same_bytes at (byte ∷ bytes) = All-cons IsSame (leaf at 8 (Number (pos byte))) (byte_leaves (at + 8) bytes) refl (same_bytes (at + 8) bytes)

  same_number : (at width : ℕ) (content : Content) (ls : List Leaf) → All IsSame (filter is_number ls) → All IsSame (filter is_number (leaf at width content ∷ ls))
  same_number at width (Number n) ls rest = All-cons IsSame (leaf at width (Number n)) (filter is_number ls) refl rest
  same_number at width (Pointer name) ls rest = rest

  same_numbers : (ls : List Leaf) → All IsSame (filter is_number ls)
  same_numbers [] = All-nil IsSame
  same_numbers (l ∷ ls) = same_number l.at l.width l.content ls (same_numbers ls)

  module _ (program : Program) (planes : List Plane) (blocks : Blocks) (capacity : ℕ) (agree : Agree blocks) where
    fits_to : (scope : Scope) (type : Ty) (id : ℕ) → Fits program blocks capacity scope type (To id) → a id ≡ b id
    fits_to scope type id (Fits.to m) = let n = named blocks (eval_in program scope) type id m in agree id n.0 n.1

    mutual
      pub same_leaves : {at : ℕ} {type : Ty} {tree : Tree} {ls : List Leaf} → HasLeaves program planes at type tree ls → (scope : Scope) → Fits program blocks capacity scope type tree → All IsSame ls
      same_leaves (HasLeaves.number {at} {scalar = number} {n}) scope fits = All-cons IsSame (leaf at (8 * bytes_of number) (Number n)) [] refl (All-nil IsSame)
      same_leaves (HasLeaves.bits {at} {unit} {width} {n}) scope fits = All-cons IsSame (leaf at width (Number n)) [] refl (All-nil IsSame)
      same_leaves (HasLeaves.opaque {at} {size} {align} {bytes}) scope fits = same_bytes at bytes
      same_leaves (HasLeaves.null {at} {type} p) scope fits = All-cons IsSame (leaf at 64 (Pointer None)) [] refl (All-nil IsSame)
      same_leaves (HasLeaves.to {at} {type} {id} p) scope fits = All-cons IsSame (leaf at 64 (Pointer (Some id))) [] (fits_to scope type id fits) (All-nil IsSame)
      same_leaves (HasLeaves.struct {at} {node} {desc} {s} {plane} {trees} {leaves} has struct got fields) scope fits = same_fields fields (inside scope node (Rec trees)) (fits-struct node desc s trees has fits)
      same_leaves (HasLeaves.member {at} {node} {desc} {s} {place} {f} {tree} {leaves} has union get part) scope fits =
          same_leaves part (inside scope node (Alt (Some place) tree)) (fits-member node desc s place f tree has get fits)
      same_leaves (HasLeaves.common {at} {node} {common} {desc} {s} {tree} {leaves} has union c part) scope fits = same_numbers leaves
      same_leaves (HasLeaves.nothing has union none) scope fits = All-nil IsSame
      same_leaves (HasLeaves.array {at} {type} {elem} {n} {trees} {leaves} e each) scope fits = same_each each scope (fits-array type elem n trees e fits).1
      same_leaves (HasLeaves.tail {at} {type} {elem} {length} {trees} {leaves} e each) scope fits = same_each each scope (fits-tail type elem length trees e fits).1

      pub same_fields : {at : ℕ} {types : List Ty} {spots : List FieldSpot} {trees : Trees} {ls : List Leaf} → FieldsHaveLeaves program planes at types spots trees ls
          → (scope : Scope) → AllFit program blocks capacity scope types trees → All IsSame ls
      same_fields FieldsHaveLeaves.none scope fits = All-nil IsSame
      same_fields (FieldsHaveLeaves.more {at} {type} {types} {s} {spots} {tree} {trees} {first} {rest} part parts) scope fits =
          let fit = fits-more type types tree trees fits in
          All-append IsSame first rest (same_leaves part scope fit.0) (same_fields parts scope fit.1)

      pub same_each : {stride at : ℕ} {type : Ty} {trees : Trees} {ls : List Leaf} → EachHasLeaves program planes stride at type trees ls
          → (scope : Scope) → EachFits program blocks capacity scope type trees → All IsSame ls
      same_each EachHasLeaves.no_more scope fits = All-nil IsSame
      same_each (EachHasLeaves.one_more {stride} {at} {type} {tree} {trees} {first} {rest} part parts) scope fits =
          let fit = fits-one type tree trees fits in
          All-append IsSame first rest (same_leaves part scope fit.0) (same_each parts scope fit.1)

  same_set : (l : Leaf) (i : ℕ) → IsSame l → is_set_in a i l ≡ is_set_in b i l
  same_set l i same = ap (λ n. nat_le l.at i && nat_lt i (l.at + l.width) && bit_of n (i - l.at)) same

  same_any : (ls : List Leaf) (i : ℕ) → All IsSame ls → list_any (is_set_in a i) ls ≡ list_any (is_set_in b i) ls
  same_any [] i same = refl
  same_any (l ∷ ls) i same = ap₂ (λ x y. x || y) (same_set l i (All-head IsSame l ls same)) (same_any ls i (All-tail IsSame l ls same))

  -- bytes that stand for such leaves by the one addresses do so by the others
  pub stand_same : (ls : List Leaf) (bytes : List ℕ) → All IsSame ls → Stand a ls bytes → Stand b ls bytes
  stand_same ls bytes same stand i low = stand i low ∙ same_any ls i same
