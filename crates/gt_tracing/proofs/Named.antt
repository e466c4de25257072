-- What the pointers of a value that fits name, and values without pointers.
use Rattle.std.proofs.Common.{◌≡◌, ◌∙◌, ℕ, suc, List, [], ◌++◌, length, Some, refl, ap, subst, inl, inr}
use Rattle.std.specs.Prelude.{Contains}
use Rattle.std.proofs.lemmas.List.Elements.{Contains-append_cases}
use Rattle.gt_types.specs.declared.types.Scalar.{Scalar}
use Rattle.gt_types.specs.declared.types.Ty.{Ty}
use Rattle.gt_types.specs.declared.types.Ty.TheVariants as ty
use Rattle.gt_types.specs.declared.program.Program.{Program}
use Rattle.gt_tree.specs.Trees.{Tree, Trees, End, And, count, edges, all_edges}
use Rattle.gt_tree.specs.Blocks.{Block, Blocks}
use Rattle.gt_tree.specs.Scopes.{Scope, eval_in}
use Rattle.gt_tree.specs.Fits.{Fits, AllFit, EachFits}
use Rattle.gt_tree.proofs.FixedParts.{named, is-number}
use Rattle.gt_objects.proofs.Items.{none_there, there_cases}

abbrev pub IsBlock : Blocks → ℕ → Type 0
IsBlock blocks id = (b : Block) × (blocks id ≡ Some b)

module _ {program : Program} {blocks : Blocks} {capacity : ℕ} where
  mutual
    -- each names a block
    pub edge_named : {scope : Scope} {type : Ty} {tree : Tree} → Fits program blocks capacity scope type tree → (id : ℕ) → Contains (edges tree) id → IsBlock blocks id
    edge_named (Fits.number h) id has = none_there id has
    edge_named (Fits.bits h) id has = none_there id has
    edge_named (Fits.opaque h all) id has = none_there id has
    edge_named (Fits.null h) id has = none_there id has
    edge_named (Fits.to {scope} {type} {id = to} may) id has = elim (there_cases to [] id has) [
      | inl is ↦ subst (IsBlock blocks) is (named blocks (eval_in program scope) type to may)
      | inr none ↦ none_there id none
    ]
    edge_named (Fits.struct h u all) id has = edge_of_all all id has
    edge_named (Fits.member h u a g fits) id has = edge_named fits id has
    edge_named (Fits.common h u a c e fits) id has = edge_named fits id has
    edge_named (Fits.nothing h u a none) id has = none_there id has
    edge_named (Fits.array e c each) id has = edge_of_each each id has
    edge_named (Fits.tail e v le c each) id has = edge_of_each each id has

    pub edge_of_all : {scope : Scope} {types : List Ty} {trees : Trees} → AllFit program blocks capacity scope types trees → (id : ℕ) → Contains (all_edges trees) id → IsBlock blocks id
    edge_of_all AllFit.none id has = none_there id has
    edge_of_all (AllFit.more {tree} {trees} fits all) id has = elim (Contains-append_cases (edges tree) (all_edges trees) id has) [
      | inl first ↦ edge_named fits id first
      | inr later ↦ edge_of_all all id later
    ]

    pub edge_of_each : {scope : Scope} {type : Ty} {trees : Trees} → EachFits program blocks capacity scope type trees → (id : ℕ) → Contains (all_edges trees) id → IsBlock blocks id
    edge_of_each EachFits.no_more id has = none_there id has
    edge_of_each (EachFits.one_more {tree} {trees} fits each) id has = elim (Contains-append_cases (edges tree) (all_edges trees) id has) [
      | inl first ↦ edge_named fits id first
      | inr later ↦ edge_of_each each id later
    ]

  -- numbers have no edges
  pub no_edges : {scope : Scope} (scalar : Scalar) (trees : Trees) → EachFits program blocks capacity scope (ty.Num scalar) trees → all_edges trees ≡ []
  no_edges scalar End EachFits.no_more = refl
  no_edges scalar (And tree trees) (EachFits.one_more fits each) =
      let number = is-number scalar tree fits in
      ap (λ t. edges t ++ all_edges trees) number.1 ∙ no_edges scalar trees each

-- as many values fit as there are types
pub all_count : {program : Program} {blocks : Blocks} {capacity : ℕ} {scope : Scope} {types : List Ty} {trees : Trees} → AllFit program blocks capacity scope types trees → count trees ≡ length types
all_count AllFit.none = refl
all_count (AllFit.more fits all) = ap suc (all_count all)
