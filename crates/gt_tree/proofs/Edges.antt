-- The edges of a value are the names in its leaves.
use Rattle.std.proofs.Common.{◌≡◌, ℕ, ◌+◌, List, [], ◌∷◌, ◌++◌, Some, None, Option, sym, ap, ◌∙◌, refl}
use Rattle.std.proofs.lemmas.List.Elements.{filter_map-append}
use Rattle.std.specs.List.{filter}
use Rattle.gt_types.specs.declared.expressions.Expr.{Expr}
use Rattle.gt_types.specs.declared.types.TypeId.{TypeId}
use Rattle.gt_types.specs.declared.types.Ty.{Ty}
use Rattle.gt_types.specs.declared.types.Ty.TheVariants as ty
use Rattle.gt_types.specs.declared.program.Program.{Program}
use Rattle.gt_layout.specs.declared.planes.Plane.{Plane}
use Rattle.gt_layout.specs.declared.planes.FieldSpot.{FieldSpot}
use Rattle.gt_layout.specs.declared.planes.Layouts.{Layouts}
use Rattle.gt_tree.specs.Trees.{Tree, Num, Null, To, Raw, Rec, Alt, Row, Trees, End, And, edges, all_edges, without_pointers, all_without_pointers}
use Rattle.gt_tree.specs.Blocks.{Blocks}
use Rattle.gt_tree.specs.Scopes.{Scope, inside}
use Rattle.gt_tree.specs.Fits.{Fits, AllFit, EachFits}
use Rattle.gt_tree.specs.Leaves.{Leaf, leaf, Content, Number, Pointer, byte_leaves, is_number, target_of, targets, HasLeaves, FieldsHaveLeaves, EachHasLeaves}
use Rattle.gt_tree.specs.BlockLeaves.{EdgesAreTargets}
use Rattle.gt_tree.proofs.Fitting.{fits-struct, fits-member, fits-array, fits-tail, fits-more, fits-one}

-- ---- names in lists of leaves

targets-bytes : (at : ℕ) (bytes : List ℕ) → [] ≡ targets (byte_leaves at bytes)
targets-bytes at [] = refl
targets-bytes at (byte ∷ bytes) = targets-bytes (at + 8) bytes

number-first : (at width : ℕ) (content : Content) (xs : List Leaf) → [] ≡ targets (filter is_number xs) → [] ≡ targets (filter is_number (leaf at width content ∷ xs))
number-first at width (Number n) xs rest = rest
number-first at width (Pointer name) xs rest = rest

targets-numbers : (xs : List Leaf) → [] ≡ targets (filter is_number xs)
targets-numbers [] = refl
targets-numbers (x ∷ xs) = number-first x.at x.width x.content xs (targets-numbers xs)

-- ---- values without pointers

mutual
  bare : (tree : Tree) → edges (without_pointers tree) ≡ []
  bare (Num n) = refl
  bare Null = refl
  bare (To id) = refl
  bare (Raw bytes) = refl
  bare (Rec trees) = bare_all trees
  bare (Alt member tree) = bare tree
  bare (Row trees) = bare_all trees

  bare_all : (trees : Trees) → all_edges (all_without_pointers trees) ≡ []
  bare_all End = refl
  bare_all (And tree trees) = ap (λ es. es ++ all_edges (all_without_pointers trees)) (bare tree) ∙ bare_all trees

module _ {program : Program} {blocks : Blocks} {capacity : ℕ} {scope : Scope} where
  fits-bare : (node : TypeId) (desc : Option Expr) (tree : Tree) → Fits program blocks capacity scope (ty.Node node desc) (Alt None tree) → edges tree ≡ []
  fits-bare node desc tree (Fits.common has union active common e fits) = sym (ap edges e) ∙ bare tree
  fits-bare node desc _ (Fits.nothing has union active none) = refl

module _ (program : Program) (planes : List Plane) (blocks : Blocks) (capacity : ℕ) where
  mutual
    names : {at : ℕ} {type : Ty} {tree : Tree} {leaves : List Leaf} → HasLeaves program planes at type tree leaves
        → (scope : Scope) → Fits program blocks capacity scope type tree → edges tree ≡ targets leaves
    names (HasLeaves.number {at} {scalar = number} {n}) scope fits = refl
    names (HasLeaves.bits {at} {unit} {width} {n}) scope fits = refl
    names (HasLeaves.opaque {at} {size} {align} {bytes}) scope fits = targets-bytes at bytes
    names (HasLeaves.null {at} {type} p) scope fits = refl
    names (HasLeaves.to {at} {type} {id} p) scope fits = refl
    names (HasLeaves.struct {at} {node} {desc} {s} {plane} {trees} {leaves} has struct got fields) scope fits = names_fields fields (inside scope node (Rec trees)) (fits-struct node desc s trees has fits)
    names (HasLeaves.member {at} {node} {desc} {s} {place} {f} {tree} {leaves} has union get part) scope fits =
        names part (inside scope node (Alt (Some place) tree)) (fits-member node desc s place f tree has get fits)
    names (HasLeaves.common {at} {node} {common} {desc} {s} {tree} {leaves} has union c part) scope fits = fits-bare node desc tree fits ∙ targets-numbers leaves
    names (HasLeaves.nothing has union none) scope fits = refl
    names (HasLeaves.array {at} {type} {elem} {n} {trees} {leaves} e each) scope fits = names_each each scope (fits-array type elem n trees e fits).1
    names (HasLeaves.tail {at} {type} {elem} {length} {trees} {leaves} e each) scope fits = names_each each scope (fits-tail type elem length trees e fits).1

    names_fields : {at : ℕ} {types : List Ty} {spots : List FieldSpot} {trees : Trees} {leaves : List Leaf} → FieldsHaveLeaves program planes at types spots trees leaves
        → (scope : Scope) → AllFit program blocks capacity scope types trees → all_edges trees ≡ targets leaves
    names_fields FieldsHaveLeaves.none scope fits = refl
    names_fields (FieldsHaveLeaves.more {at} {type} {types} {s} {spots} {tree} {trees} {first} {rest} part parts) scope fits =
        let fit = fits-more type types tree trees fits in
        ap (λ es. es ++ all_edges trees) (names part scope fit.0) ∙ ap (λ es. targets first ++ es) (names_fields parts scope fit.1) ∙ sym (filter_map-append target_of first rest)

    names_each : {stride at : ℕ} {type : Ty} {trees : Trees} {leaves : List Leaf} → EachHasLeaves program planes stride at type trees leaves
        → (scope : Scope) → EachFits program blocks capacity scope type trees → all_edges trees ≡ targets leaves
    names_each EachHasLeaves.no_more scope fits = refl
    names_each (EachHasLeaves.one_more {stride} {at} {type} {tree} {trees} {first} {rest} part parts) scope fits =
        let fit = fits-one type tree trees fits in
        ap (λ es. es ++ all_edges trees) (names part scope fit.0) ∙ ap (λ es. targets first ++ es) (names_each parts scope fit.1) ∙ sym (filter_map-append target_of first rest)

pub edges-targets : (program : Program) (layouts : Layouts) → EdgesAreTargets program layouts
edges-targets program layouts blocks capacity scope type tree at leaves fits has = names program layouts.structures blocks capacity has scope fits
