-- The values of roots without the pointers of deletable ones: they fit, and their edges are those of the other roots.
use Rattle.std.proofs.Common.{◌≡◌, ℕ, true, false, List, [], ◌∷◌, ◌++◌, Some, map, refl, ap, subst, ◌∙◌, inl, inr}
use Rattle.std.specs.Prelude.{Bool, if◌then◌else◌, Contains}
use Rattle.std.proofs.lemmas.List.Elements.{Contains-append_cases, Contains-append_left, Contains-append_right}
use Rattle.gt_types.specs.declared.types.Ty.{Ty}
use Rattle.gt_types.specs.declared.program.Root.{Root}
use Rattle.gt_types.specs.declared.program.Program.{Program}
use Rattle.gt_tree.specs.Trees.{Tree, Num, Null, To, Raw, Rec, Alt, Row, Trees, End, And, edges, all_edges, without_pointers, all_without_pointers}
use Rattle.gt_tree.specs.Blocks.{Block, Blocks}
use Rattle.gt_tree.specs.Scopes.{Scope, eval_in}
use Rattle.gt_tree.specs.Fits.{Fits, AllFit, EachFits, edges_unless, static_edges}
use Rattle.gt_tree.proofs.FixedParts.{named}
use Rattle.gt_tree.proofs.Fitting.{fits-more}
use Rattle.gt_graph.specs.Kept.{without_deletable}
use Rattle.gt_objects.proofs.Items.{none_there, there_cases}
use Rattle.gt_collect.proofs.Bare.{AreAlike, bare_fits, fits_alike, fields_alike}

-- ---- edges

mutual
  bare_edges : (tree : Tree) → edges (without_pointers tree) ≡ []
  bare_edges (Num n) = refl
  bare_edges Null = refl
  bare_edges (To id) = refl
  bare_edges (Raw bytes) = refl
  bare_edges (Rec trees) = all_bare_edges trees
  bare_edges (Alt member tree) = bare_edges tree
  bare_edges (Row trees) = all_bare_edges trees

  all_bare_edges : (trees : Trees) → all_edges (all_without_pointers trees) ≡ []
  all_bare_edges End = refl
  all_bare_edges (And tree trees) = ap (λ es. es ++ all_edges (all_without_pointers trees)) (bare_edges tree) ∙ all_bare_edges trees

module _ {program : Program} {blocks : Blocks} {capacity : ℕ} where
  -- what a value that fits names is a block
  mutual
    pub fits_named : {scope : Scope} {type : Ty} {tree : Tree} → Fits program blocks capacity scope type tree → (id : ℕ) → Contains (edges tree) id → (b : Block) × (blocks id ≡ Some b)
    fits_named (Fits.number room) id there = none_there id there
    fits_named (Fits.bits room) id there = none_there id there
    fits_named (Fits.opaque long small) id there = none_there id there
    fits_named (Fits.null p) id there = none_there id there
    fits_named (Fits.to {scope} {type} {id = x} m) id there = elim (there_cases x [] id there) as (λ _. (b : Block) × (blocks id ≡ Some b)) [
      | inl same ↦ subst (λ n. (b : Block) × (blocks n ≡ Some b)) same (named blocks (eval_in program scope) type x m)
      | inr none ↦ none_there id none
    ]
    fits_named (Fits.struct has struct all) id there = fields_named all id there
    fits_named (Fits.member has union active get fits) id there = fits_named fits id there
    fits_named (Fits.common has union active o plain fits) id there = fits_named fits id there
    fits_named (Fits.nothing has union active none) id there = none_there id there
    fits_named (Fits.array e many each) id there = each_named each id there
    fits_named (Fits.tail e value le many each) id there = each_named each id there

    pub fields_named : {scope : Scope} {types : List Ty} {trees : Trees} → AllFit program blocks capacity scope types trees → (id : ℕ) → Contains (all_edges trees) id → (b : Block) × (blocks id ≡ Some b)
    fields_named AllFit.none id there = none_there id there
    fields_named (AllFit.more {tree} {trees} fits all) id there = elim (Contains-append_cases (edges tree) (all_edges trees) id there) as (λ _. (b : Block) × (blocks id ≡ Some b)) [
      | inl first ↦ fits_named fits id first
      | inr later ↦ fields_named all id later
    ]

    pub each_named : {scope : Scope} {type : Ty} {trees : Trees} → EachFits program blocks capacity scope type trees → (id : ℕ) → Contains (all_edges trees) id → (b : Block) × (blocks id ≡ Some b)
    each_named EachFits.no_more id there = none_there id there
    each_named (EachFits.one_more {tree} {trees} fits each) id there = elim (Contains-append_cases (edges tree) (all_edges trees) id there) as (λ _. (b : Block) × (blocks id ≡ Some b)) [
      | inl first ↦ fits_named fits id first
      | inr later ↦ each_named each id later
    ]

  -- ---- roots

  none_fit : {scope : Scope} (trees : Trees) → AllFit program blocks capacity scope [] trees → trees ≡ End
  none_fit _ AllFit.none = refl

  -- the values of roots fit without the pointers of deletable ones
  pub cleared_fit : {s : Scope} (t : Scope) → AreAlike s t → (roots : List Root) (trees : Trees) → AllFit program blocks capacity s (map (λ r. r.ty) roots) trees
      → AllFit program blocks capacity t (map (λ r. r.ty) roots) (without_deletable roots trees)
  cleared_fit {s = s} t alike [] trees fit = fields_alike program t alike fit
  cleared_fit {s = s} t alike (r ∷ roots) End fit = fields_alike program t alike fit
  cleared_fit {s = s} t alike (r ∷ roots) (And tree trees) fit =
      let parts = fits-more r.ty (map (λ r. r.ty) roots) tree trees fit in
      AllFit.more (either r.deletable parts.0) (cleared_fit t alike roots trees parts.1)
    where
      either : (b : Bool) → Fits program blocks capacity s r.ty tree → Fits program blocks capacity t r.ty (if b then without_pointers tree else tree)
      either true fits = bare_fits program t alike fits
      either false fits = fits_alike program t alike fits

  -- their edges are those of the roots that are not deletable
  pub cleared_edges : {s : Scope} (roots : List Root) (trees : Trees) → AllFit program blocks capacity s (map (λ r. r.ty) roots) trees → (id : ℕ) → Contains (all_edges (without_deletable roots trees)) id
      → Contains (static_edges roots trees) id
  cleared_edges [] trees fit id there = none_there id (subst (λ ts. Contains (all_edges ts) id) (none_fit trees fit) there)
  cleared_edges (r ∷ roots) End fit id there = none_there id there
  cleared_edges (r ∷ roots) (And tree trees) fit id there =
      let parts = fits-more r.ty (map (λ r. r.ty) roots) tree trees fit in
      elim (Contains-append_cases (edges (if r.deletable then without_pointers tree else tree)) (all_edges (without_deletable roots trees)) id there) as (λ _. Contains (edges_unless r.deletable tree ++ static_edges roots trees) id) [
        | inl first ↦ Contains-append_left (edges_unless r.deletable tree) (static_edges roots trees) id (subst (λ es. Contains es id) (either r.deletable) first)
        | inr later ↦ Contains-append_right (edges_unless r.deletable tree) (static_edges roots trees) id (cleared_edges roots trees parts.1 id later)
      ]
    where
      either : (b : Bool) → edges (if b then without_pointers tree else tree) ≡ edges_unless b tree
      either true = bare_edges tree
      either false = refl

  -- and name blocks
  pub static_named : {s : Scope} (roots : List Root) (trees : Trees) → AllFit program blocks capacity s (map (λ r. r.ty) roots) trees → (id : ℕ) → Contains (static_edges roots trees) id
      → (b : Block) × (blocks id ≡ Some b)
  static_named [] trees fit id there = none_there id there
  static_named (r ∷ roots) End fit id there = none_there id there
  static_named (r ∷ roots) (And tree trees) fit id there =
      let parts = fits-more r.ty (map (λ r. r.ty) roots) tree trees fit in
      elim (Contains-append_cases (edges_unless r.deletable tree) (static_edges roots trees) id there) as (λ _. (b : Block) × (blocks id ≡ Some b)) [
        | inl first ↦ fits_named parts.0 id (either r.deletable first)
        | inr later ↦ static_named roots trees parts.1 id later
      ]
    where
      either : (b : Bool) → Contains (edges_unless b tree) id → Contains (edges tree) id
      either true there = none_there id there
      either false there = there
