-- The words of deletable roots are the leaves of their values, which are pointers.
use Rattle.std.proofs.Common.{◌≡◌, ℕ, zero, suc, ◌+◌, ◌*◌, ◌/◌, ◌≤◌, Bool, true, false, IsTrue, List, [], ◌∷◌, ◌++◌, map, refl, ap, sym, subst, ◌∙◌, arith, Option, Some, None}
use Rattle.std.specs.Prelude.{if◌then◌else◌, Contains}
use Rattle.std.specs.List.{range_with_len}
use Rattle.gt_types.specs.declared.expressions.Expr.{Expr}
use Rattle.gt_types.specs.declared.types.TypeId.{TypeId}
use Rattle.gt_types.specs.declared.types.Scalar.{Scalar}
use Rattle.gt_types.specs.declared.types.Ty.{Ty, out-Ty}
use Rattle.gt_types.specs.declared.types.Ty.TheFolds.{fold_out-Ty, map-Ty}
use Rattle.gt_types.specs.declared.types.Ty.TheOpen as part
use Rattle.gt_types.specs.declared.types.Ty.TheVariants as ty
use Rattle.gt_types.specs.declared.types.Ty.TheVariants.{outs-Num, outs-Bits, outs-Opaque}
use Rattle.gt_types.specs.declared.program.Root.{Root}
use Rattle.gt_types.specs.declared.program.Program.{Program}
use Rattle.gt_types.specs.Shapes.{innermost, is_pointer}
use Rattle.gt_layout.specs.declared.planes.Extent.{Extent}
use Rattle.gt_layout.specs.declared.planes.Plane.{Plane}
use Rattle.gt_layout.specs.declared.planes.FieldSpot.{FieldSpot}
use Rattle.gt_layout.specs.declared.storages.Storage.TheVariants.{Bytes}
use Rattle.gt_layout.specs.Storages.{extent_of, extent_step, storage_of}
use Rattle.gt_layout.specs.Places.{Follow, begin_at, end_at, spot_of}
use Rattle.gt_layout.specs.Planes.{root_storages}
use Rattle.gt_tree.specs.Trees.{Tree, Null, To, Trees, count, without_pointers, all_without_pointers}
use Rattle.gt_tree.specs.Blocks.{Blocks}
use Rattle.gt_tree.specs.Scopes.{Scope}
use Rattle.gt_tree.specs.Fits.{Fits, AllFit, EachFits}
use Rattle.gt_tree.specs.Leaves.{Leaf, leaf, Pointer, HasLeaves, FieldsHaveLeaves, EachHasLeaves}
use Rattle.gt_tree.proofs.Fitting.{fits-array, fits-tail, fits-more, fits-one}
use Rattle.gt_tree.proofs.FixedScopes.{innermost-layer, innermost-array, innermost-tail}
use Rattle.gt_tree.proofs.Types.{extent-array, extent-pointer, innermost-node}
use Rattle.gt_edges.specs.Deletable.{deletable_words, words_from, words_if}
use Rattle.gt_graph.specs.Kept.{without_deletable}
use Rattle.gt_objects.proofs.Items.{first_there, later_there}
use Rattle.gt_collect.proofs.Nulls.{Nulled, all_same, nulled_both}

-- ---- types that hold pointers alone

not_number : {X : Type 0} (scalar : Scalar) → IsTrue (is_pointer (innermost (ty.Num scalar))) → X
not_number scalar h = let is = ap is_pointer (innermost-layer (ty.Num scalar) (part.Num scalar) (outs-Num scalar)) in absurd (cc)

not_bits : {X : Type 0} (unit : Scalar) (width : ℕ) → IsTrue (is_pointer (innermost (ty.Bits unit width))) → X
not_bits unit width h = let is = ap is_pointer (innermost-layer (ty.Bits unit width) (part.Bits unit width) (outs-Bits unit width)) in absurd (cc)

not_opaque : {X : Type 0} (size align : ℕ) → IsTrue (is_pointer (innermost (ty.Opaque size align))) → X
not_opaque size align h = let is = ap is_pointer (innermost-layer (ty.Opaque size align) (part.Opaque size align) (outs-Opaque size align)) in absurd (cc)

not_node : {X : Type 0} (node : TypeId) (desc : Option Expr) → IsTrue (is_pointer (innermost (ty.Node node desc))) → X
not_node node desc h = let is = ap is_pointer (innermost-node node desc) in absurd (cc)

-- an array with a length takes no bytes of its own
extent_tail : (planes : List Plane) (type elem : Ty) (length : Expr) → out-Ty type ≡ part.Tail length elem → (extent_of planes type).size ≡ 0
extent_tail planes type elem length e = ap (λ x. x.size) (fold_out-Ty Extent (extent_step planes) type ∙ ap (λ y. extent_step planes (map-Ty Ty Extent (extent_of planes) y)) e)

-- they take whole bytes
whole_bytes : (planes : List Plane) (type : Ty) → IsTrue (is_pointer (innermost type)) → storage_of planes type ≡ Bytes (extent_of planes type)
whole_bytes planes (ty.Bits unit width) h = not_bits unit width h
whole_bytes planes type h = refl

-- ---- words, one after another

abbrev words_up : ℕ → ℕ → List ℕ
words_up address zero = []
words_up address (suc n) = address ∷ words_up (address + 8) n

words_both : (address m n : ℕ) → words_up address (m + n) ≡ words_up address m ++ words_up (address + 8 * m) n
words_both address zero n =
    let at : address ≡ address + 8 * 0 = omega arith in
    let many : 0 + n ≡ n = omega arith in
    ap (words_up address) many ∙ ap (λ a. words_up a n) at
words_both address (suc m) n =
    let at : address + 8 + 8 * m ≡ address + 8 * suc m = omega arith in
    let many : suc m + n ≡ suc (m + n) = omega arith in
    ap (words_up address) many ∙ ap (λ ws. address ∷ ws) (words_both (address + 8) m n) ∙ ap (λ a. address ∷ (words_up (address + 8) m ++ words_up a n)) at

words_mapped : (address k n : ℕ) → map (λ i. address + 8 * i) (range_with_len k n) ≡ words_up (address + 8 * k) n
words_mapped address k zero = refl
words_mapped address k (suc n) =
    let at : address + 8 * (k + 1) ≡ address + 8 * k + 8 = omega arith in
    ap (λ ws. (address + 8 * k) ∷ ws) (words_mapped address (k + 1) n) ∙ ap (λ a. (address + 8 * k) ∷ words_up a n) at

words_same : (address n : ℕ) → words_from address n ≡ words_up address n
words_same address n = let at : address + 8 * 0 ≡ address = omega arith in words_mapped address 0 n ∙ ap (λ a. words_up a n) at

-- ---- values

none_taken : (k size : ℕ) → k ≤ 0 → 0 ≡ k * size
none_taken zero size few = omega arith
none_taken (suc k) size few = absurd (let no : 1 ≤ 0 = omega (arith, few) in omega (arith, no))

more_taken : (k size m n : ℕ) → size ≡ 8 * m → k * size ≡ 8 * n → suc k * size ≡ 8 * (m + n)
more_taken k size m n one rest = let next : suc k * size ≡ size + k * size = omega arith in omega (arith, next, one, rest)

module _ (program : Program) (planes : List Plane) (start : ℕ) where
  -- The leaves of a value that holds pointers alone are the words from an address on, and null in the value without pointers.
  pub record PartNulled (at : ℕ) (type : Ty) (tree : Tree) (address : ℕ) (old : List Leaf) : Type 0 where
    pub many : ℕ
    pub size : (extent_of planes type).size ≡ 8 * many
    pub leaves : List Leaf
    pub has : HasLeaves program planes at type (without_pointers tree) leaves
    pub nulled : Nulled start (words_up address many) old leaves

  -- so it is for values, one after another
  pub record EachNulled (stride at : ℕ) (type : Ty) (trees : Trees) (address : ℕ) (old : List Leaf) : Type 0 where
    pub many : ℕ
    pub size : count trees * (extent_of planes type).size ≡ 8 * many
    pub leaves : List Leaf
    pub have : EachHasLeaves program planes stride at type (all_without_pointers trees) leaves
    pub nulled : Nulled start (words_up address many) old leaves

  one_part : (at : ℕ) (type : Ty) (tree : Tree) (address : ℕ) (old : List Leaf) → IsTrue (is_pointer type) → HasLeaves program planes at type (without_pointers tree) (leaf at 64 (Pointer None) ∷ [])
      → Nulled start (words_up address 1) old (leaf at 64 (Pointer None) ∷ []) → PartNulled at type tree address old
  one_part at type tree address old p has nulled = record {
    many = 1;
    size = extent-pointer planes type p;
    leaves = leaf at 64 (Pointer None) ∷ [];
    has = has;
    nulled = nulled;
  }

  module _ (blocks : Blocks) where
    mutual
      part_nulled : {at : ℕ} {type : Ty} {tree : Tree} {old : List Leaf} → HasLeaves program planes at type tree old → (scope : Scope) → Fits program blocks 0 scope type tree → IsTrue (is_pointer (innermost type))
          → (address : ℕ) → 8 * address ≡ 8 * start + at → PartNulled at type tree address old
      part_nulled (HasLeaves.number {scalar}) scope fits h address lies = not_number scalar h
      part_nulled (HasLeaves.bits {unit} {width}) scope fits h address lies = not_bits unit width h
      part_nulled (HasLeaves.opaque {size} {align}) scope fits h address lies = not_opaque size align h
      part_nulled (HasLeaves.null {at} {type} p) scope fits h address lies =
          one_part at type Null address (leaf at 64 (Pointer None) ∷ []) p (HasLeaves.null p) (Nulled.null lies Nulled.none)
      part_nulled (HasLeaves.to {at} {type} {id} p) scope fits h address lies =
          one_part at type (To id) address (leaf at 64 (Pointer (Some id)) ∷ []) p (HasLeaves.null p) (Nulled.null lies Nulled.none)
      part_nulled (HasLeaves.struct {node} {desc} has struct get fields) scope fits h address lies = not_node node desc h
      part_nulled (HasLeaves.member {node} {desc} has union get one) scope fits h address lies = not_node node desc h
      part_nulled (HasLeaves.common {node} {desc} has union is one) scope fits h address lies = not_node node desc h
      part_nulled (HasLeaves.nothing {node} {desc} has union without) scope fits h address lies = not_node node desc h
      part_nulled (HasLeaves.array {at} {type} {elem} {n} {trees} {leaves} e each) scope fits h address lies =
          let fit = fits-array type elem n trees e fits in
          let of_elem = subst (λ t. IsTrue (is_pointer t)) (innermost-array type elem n e) h in
          let parts = each_nulled each scope fit.1 of_elem address refl lies in
          let takes = parts.size in
          record {
            many = parts.many;
            size = extent-array planes type elem n e ∙ ap (λ k. k * (extent_of planes elem).size) (sym fit.0) ∙ takes;
            leaves = parts.leaves;
            has = HasLeaves.array e parts.have;
            nulled = parts.nulled;
          }
      part_nulled (HasLeaves.tail {at} {type} {elem} {length} {trees} {leaves} e each) scope fits h address lies =
          let fit = fits-tail type elem length trees e fits in
          let of_elem = subst (λ t. IsTrue (is_pointer t)) (innermost-tail type elem length e) h in
          let parts = each_nulled each scope fit.1 of_elem address refl lies in
          record {
            many = parts.many;
            size = extent_tail planes type elem length e ∙ none_taken (count trees) (extent_of planes elem).size fit.0 ∙ parts.size;
            leaves = parts.leaves;
            has = HasLeaves.tail e parts.have;
            nulled = parts.nulled;
          }

      each_nulled : {stride at : ℕ} {type : Ty} {trees : Trees} {old : List Leaf} → EachHasLeaves program planes stride at type trees old → (scope : Scope) → EachFits program blocks 0 scope type trees
          → IsTrue (is_pointer (innermost type)) → (address : ℕ) → stride ≡ 8 * (extent_of planes type).size → 8 * address ≡ 8 * start + at → EachNulled stride at type trees address old
      each_nulled (EachHasLeaves.no_more {type}) scope fits h address wide lies = record { many = 0; size = sym (none_taken 0 (extent_of planes type).size (omega arith)); leaves = []; have = EachHasLeaves.no_more; nulled = Nulled.none }
      each_nulled (EachHasLeaves.one_more {stride} {at} {type} {tree} {trees} {first} {rest} one each) scope fits h address wide lies =
          let fit = fits-one type tree trees fits in
          let part = part_nulled one scope fit.0 h address lies in
          let size = part.size in
          let next : 8 * (address + 8 * part.many) ≡ 8 * start + (at + stride) = omega (arith, size, wide, lies) in
          let parts = each_nulled each scope fit.1 h (address + 8 * part.many) wide next in
          let sizes = parts.size in
          record {
            many = part.many + parts.many;
            size = more_taken (count trees) (extent_of planes type).size part.many parts.many size sizes;
            leaves = part.leaves ++ parts.leaves;
            have = EachHasLeaves.one_more part.has parts.have;
            nulled = subst (λ ws. Nulled start ws (first ++ rest) (part.leaves ++ parts.leaves)) (sym (words_both address part.many parts.many)) (nulled_both part.nulled parts.nulled);
          }

    -- ---- roots

    -- the leaves of a root at its spot, without pointers if it is deletable
    abbrev RootNulled : Bool → Ty → FieldSpot → Tree → List Leaf → Type 0
    RootNulled b type s tree old =
        (new : List Leaf) × HasLeaves program planes (0 + begin_at s) type (if b then without_pointers tree else tree) new
        × Nulled start (words_if b (start + s.offset) ((extent_of planes type).size / 8)) old new

    root_nulled : (b : Bool) (type : Ty) (s : FieldSpot) (tree : Tree) (old : List Leaf) → (IsTrue b → IsTrue (is_pointer (innermost type))) → s ≡ spot_of (storage_of planes type) (begin_at s) → (scope : Scope)
        → Fits program blocks 0 scope type tree → HasLeaves program planes (0 + begin_at s) type tree old → RootNulled b type s tree old
    root_nulled false type s tree old pointers lies scope fits has = (old, has, all_same old)
    root_nulled true type s tree old pointers lies scope fits has =
        let h = pointers refl in
        let first : s.bit ≡ 0 = ap (λ x. x.bit) lies ∙ ap (λ y. (spot_of y (begin_at s)).bit) (whole_bytes planes type h) in
        let part = part_nulled has scope fits h (start + s.offset) (omega (arith, first)) in
        let size = part.size in
        let many : (extent_of planes type).size / 8 ≡ part.many = omega (arith, size) in
        (part.leaves, part.has, subst (λ ws. Nulled start ws old part.leaves) (sym (ap (words_from (start + s.offset)) many ∙ words_same (start + s.offset) part.many)) part.nulled)

    abbrev pub RootsNulled : List Root → List FieldSpot → Trees → List Leaf → Type 0
    RootsNulled roots spots trees old =
        (new : List Leaf) × FieldsHaveLeaves program planes 0 (map (λ r. r.ty) roots) spots (without_deletable roots trees) new × Nulled start (deletable_words planes start roots spots) old new

    pub roots_nulled : (roots : List Root) → ((r : Root) → Contains roots r → IsTrue r.deletable → IsTrue (is_pointer (innermost r.ty))) → (spots : List FieldSpot) (from : ℕ)
        → Follow from (root_storages planes roots) spots → (scope : Scope) (trees : Trees) (old : List Leaf) → AllFit program blocks 0 scope (map (λ r. r.ty) roots) trees
        → FieldsHaveLeaves program planes 0 (map (λ r. r.ty) roots) spots trees old → RootsNulled roots spots trees old
    roots_nulled [] pointers spots from lie scope trees old fit FieldsHaveLeaves.none = ([], FieldsHaveLeaves.none, Nulled.none)
    roots_nulled (r ∷ roots) pointers spots from lie scope trees old fit (FieldsHaveLeaves.more {s} {spots = others} {tree} {trees = values} {first} {rest} one each) =
        let fits = fits-more r.ty (map (λ r. r.ty) roots) tree values fit in
        let root = root_nulled r.deletable r.ty s tree first (pointers r (first_there r roots)) lie.1 scope fits.0 one in
        let more = roots_nulled roots (λ q there. pointers q (later_there r roots q there)) others (end_at (storage_of planes r.ty) s) lie.2 scope values rest fits.1 each in
        (root.0 ++ more.0, FieldsHaveLeaves.more root.1 more.1, nulled_both root.2 more.2)
