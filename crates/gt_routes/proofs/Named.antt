-- Each pointer of a graph names an object.
use Rattle.std.proofs.Common.{◌≡◌, ℕ, zero, suc, List, [], ◌∷◌, ap, sym, subst, ◌∙◌, Some}
use Rattle.std.specs.Prelude.{◌==◌}
use Rattle.gt_types.specs.declared.types.Ty.{Ty}
use Rattle.gt_types.specs.declared.program.Program.{Program}
use Rattle.gt_tree.specs.Trees.{Tree, To, Rec, Trees, part_at, part_of}
use Rattle.gt_tree.specs.Blocks.{Block, Blocks}
use Rattle.gt_tree.specs.Scopes.{Scope, eval_in}
use Rattle.gt_tree.specs.Fits.{Fits, AllFit, EachFits}
use Rattle.gt_tree.proofs.FixedParts.{named}
use Rattle.gt_graph.specs.Objects.{Object, Graph, object_of, block_of, blocks_of}
use Rattle.gt_graph.specs.Changes.{Owner, Statics, Of}
use Rattle.gt_graph.specs.Good.{IsGraph}
use Rattle.gt_routes.proofs.SpotParts.{IsPartThere, map-some}
use Rattle.gt_routes.proofs.Passes.{through}
use Rattle.gt_routes.proofs.HeapSteps.{object-sound}

abbrev IsName : Blocks → ℕ → Type 0
IsName blocks id = (b : Block) × (blocks id ≡ Some b)

module _ {program : Program} {blocks : Blocks} {capacity : ℕ} where
  mutual
    fits-name : {scope : Scope} {type : Ty} {tree : Tree} → Fits program blocks capacity scope type tree → (path : List ℕ) (id : ℕ) → part_at tree path ≡ Some (To id) → IsName blocks id
    fits-name (Fits.number h) [] id e = absurd (cc)
    fits-name (Fits.number h) (i ∷ path) id e = absurd (cc)
    fits-name (Fits.bits h) [] id e = absurd (cc)
    fits-name (Fits.bits h) (i ∷ path) id e = absurd (cc)
    fits-name (Fits.opaque h k) [] id e = absurd (cc)
    fits-name (Fits.opaque h k) (i ∷ path) id e = absurd (cc)
    fits-name (Fits.null h) [] id e = absurd (cc)
    fits-name (Fits.null h) (i ∷ path) id e = absurd (cc)
    fits-name (Fits.to {scope} {type} {id = j} m) [] id e = let same : j ≡ id = cc in subst (IsName blocks) same (named blocks (eval_in program scope) type j m)
    fits-name (Fits.to m) (i ∷ path) id e = absurd (cc)
    fits-name (Fits.struct has u all) [] id e = absurd (cc)
    fits-name (Fits.struct has u all) (i ∷ path) id e = all-name all i path id e
    fits-name (Fits.member has u a g fits) [] id e = absurd (cc)
    fits-name (Fits.member {place} {tree} has u a g fits) (i ∷ path) id e = fits-name fits path id (through (place == i) (part_at tree path) (To id) e)
    fits-name (Fits.common has u a c w fits) [] id e = absurd (cc)
    fits-name (Fits.common has u a c w fits) (i ∷ path) id e = fits-name fits path id e
    fits-name (Fits.nothing has u a n) [] id e = absurd (cc)
    fits-name (Fits.nothing has u a n) (i ∷ []) id e = absurd (cc)
    fits-name (Fits.nothing has u a n) (i ∷ (j ∷ path)) id e = absurd (cc)
    fits-name (Fits.array o c each) [] id e = absurd (cc)
    fits-name (Fits.array o c each) (i ∷ path) id e = each-name each i path id e
    fits-name (Fits.tail o v le c each) [] id e = absurd (cc)
    fits-name (Fits.tail o v le c each) (i ∷ path) id e = each-name each i path id e

    all-name : {scope : Scope} {types : List Ty} {trees : Trees} → AllFit program blocks capacity scope types trees → (i : ℕ) (path : List ℕ) (id : ℕ) → part_of trees i path ≡ Some (To id) → IsName blocks id
    all-name AllFit.none i path id e = absurd (cc)
    all-name (AllFit.more fits all) zero path id e = fits-name fits path id e
    all-name (AllFit.more fits all) (suc i) path id e = all-name all i path id e

    each-name : {scope : Scope} {type : Ty} {trees : Trees} → EachFits program blocks capacity scope type trees → (i : ℕ) (path : List ℕ) (id : ℕ) → part_of trees i path ≡ Some (To id) → IsName blocks id
    each-name EachFits.no_more i path id e = absurd (cc)
    each-name (EachFits.one_more fits each) zero path id e = fits-name fits path id e
    each-name (EachFits.one_more fits each) (suc i) path id e = each-name each i path id e

-- the object of a name
object-named : (g : Graph) (id : ℕ) → IsName (blocks_of g.objects) id → (o : Object) × (object_of g.objects id ≡ Some o)
object-named g id (b, e) = let found = map-some block_of (object_of g.objects id) b e in (found.0, found.1)

pub names-object : (program : Program) (g : Graph) → IsGraph program g → (owner : Owner) (path : List ℕ) (id : ℕ) → IsPartThere g owner path (To id) → (o : Object) × (object_of g.objects id ≡ Some o)
names-object program g good Statics [] id (whole, is, part) = let a : Some (Rec g.statics) ≡ Some whole = is in absurd (cc)
names-object program g good Statics (i ∷ path) id (whole, is, part) =
    let same : Rec g.statics ≡ whole = cc in
    object-named g id (all-name good.statics i path id (ap (λ t. part_at t (i ∷ path)) same ∙ part))
names-object program g good (Of from) [] id (whole, is, part) =
    let o = map-some (λ (x : Object). x.value) (object_of g.objects from) whole is in
    let fits = (object-sound program g from o.0 good o.1).fits in
    let row = fits.row in
    let value = o.2 in
    absurd (cc)
names-object program g good (Of from) (i ∷ path) id (whole, is, part) =
    let o = map-some (λ (x : Object). x.value) (object_of g.objects from) whole is in
    let fits = (object-sound program g from o.0 good o.1).fits in
    object-named g id (each-name fits.each i path id (ap (λ t. part_at t (i ∷ path)) (sym fits.row ∙ o.2) ∙ part))
