-- The parts of values at places, where values stand in bytes.
use Rattle.std.proofs.Common.{◌≡◌, ℕ, zero, suc, ◌+◌, ◌*◌, ◌<◌, ◌≤◌, Bool, true, false, cond, List, [], ◌∷◌, refl, ap, subst, ◌∙◌, arith, Option, Some, None}
use Rattle.std.specs.Prelude.{◌==◌, slice_get}
use Rattle.gt_types.specs.declared.expressions.Expr.{Expr}
use Rattle.gt_types.specs.declared.types.TypeId.{TypeId}
use Rattle.gt_types.specs.declared.types.Ty.{Ty}
use Rattle.gt_types.specs.declared.types.Ty.TheVariants as ty
use Rattle.gt_types.specs.declared.types.Ty.TheVariants.{outs-Node, outs-Arr', outs-Tail'}
use Rattle.gt_types.specs.declared.program.Structure.{Structure}
use Rattle.gt_types.specs.declared.program.Program.{Program}
use Rattle.gt_types.specs.Contains.{HasStructure}
use Rattle.gt_layout.specs.declared.planes.FieldSpot.{FieldSpot}
use Rattle.gt_layout.specs.Storages.{extent_of}
use Rattle.gt_layout.specs.Places.{begin_at}
use Rattle.gt_tree.specs.Trees.{Tree, Trees, End, And, tree_at, part_at, part_of, is_word}
use Rattle.gt_tree.specs.Blocks.{Blocks}
use Rattle.gt_tree.specs.Scopes.{Scope}
use Rattle.gt_tree.specs.Fits.{Fits}
use Rattle.gt_tree.proofs.FixedParts.{is-none, is-no_more, is-opaque}
use Rattle.gt_value.specs.declared.sources.Around.{Around}
use Rattle.gt_value.specs.declared.sources.Source.{Source}
use Rattle.gt_value.specs.Reading.{Stands, FieldsStand, EachStands, shape_of}
use Rattle.gt_value.specs.Finding.{StandsIn, FieldsStandIn, EachStandIn}
use Rattle.gt_value.specs.Places.{leaf_kind, kind_of_shape}
use Rattle.gt_value.proofs.LeafReads.{number-here}
use Rattle.gt_value.proofs.StandingSteps.{fields-step, fields-first, fields-others, each-step, each-first, each-others, some-spots}
use Rattle.gt_value.proofs.StandingParts.{array-stands, tail-stands}

-- ---- parts of lists

pub part-there : (trees : Trees) (i : ℕ) (path : List ℕ) (tree : Tree) → tree_at trees i ≡ Some tree → part_of trees i path ≡ part_at tree path
part-there End i path tree e = absurd (cc)
part-there (And t ts) zero path tree e = let same : t ≡ tree = cc in ap (λ x. part_at x path) same
part-there (And t ts) (suc i) path tree e = part-there ts i path tree e

pub part-none : (trees : Trees) (i : ℕ) (path : List ℕ) → tree_at trees i ≡ None → part_of trees i path ≡ None
part-none End i path e = refl
part-none (And t ts) zero path e = absurd (cc)
part-none (And t ts) (suc i) path e = part-none ts i path e

-- ---- fields

pub record FieldAt (source : Source) (around : Around) (scope : Scope) (type : Ty) (spots : List FieldSpot) (at : ℕ) (trees : Trees) (i : ℕ) : Type 0 where
  pub spot : FieldSpot
  pub tree : Tree
  pub spot_of : slice_get spots i ≡ Some spot
  pub there : tree_at trees i ≡ Some tree
  pub stands : StandsIn source around scope type (at + begin_at spot) tree

pub field-at : (source : Source) (around : Around) (scope : Scope) (types : List Ty) (spots : List FieldSpot) (at : ℕ) (trees : Trees) (i : ℕ) (type : Ty) → slice_get types i ≡ Some type → FieldsStandIn source around scope types spots at trees
    → FieldAt source around scope type spots at trees i
field-at source around scope [] spots at trees i type e s = absurd (cc)
field-at source around scope (t ∷ ts) [] at trees i type e s = let some = some-spots source around t ts [] at trees s.0 in absurd (omega (arith, some))
field-at source around scope (t ∷ ts) (p ∷ ps) at trees zero type e s =
    let step = fields-step source around t ts p ps at trees s.0 in
    let same : t ≡ type = cc in
    record { spot = p; tree = step.tree; spot_of = refl; there = ap (λ x. tree_at x zero) step.is; stands = subst (λ x. StandsIn source around scope x (at + begin_at p) step.tree) same (step.first, fields-first source around t ts p ps at trees s.0 ∙ s.1) }
field-at source around scope (t ∷ ts) (p ∷ ps) at trees (suc i) type e s =
    let step = fields-step source around t ts p ps at trees s.0 in
    let found = field-at source around scope ts ps at step.rest i type e (step.others, fields-others source around t ts p ps at trees s.0 ∙ s.1) in
    record { spot = found.spot; tree = found.tree; spot_of = found.spot_of; there = ap (λ x. tree_at x (suc i)) step.is ∙ found.there; stands = found.stands }

pub no-field : (source : Source) (around : Around) (types : List Ty) (spots : List FieldSpot) (at : ℕ) (trees : Trees) (i : ℕ) → slice_get types i ≡ None → FieldsStand source around types spots at trees → tree_at trees i ≡ None
no-field source around [] spots at trees i e s = ap (λ x. tree_at x i) (is-none trees s.fit)
no-field source around (t ∷ ts) [] at trees i e s = let some = some-spots source around t ts [] at trees s in absurd (omega (arith, some))
no-field source around (t ∷ ts) (p ∷ ps) at trees zero e s = absurd (cc)
no-field source around (t ∷ ts) (p ∷ ps) at trees (suc i) e s =
    let step = fields-step source around t ts p ps at trees s in
    ap (λ x. tree_at x (suc i)) step.is ∙ no-field source around ts ps at step.rest i e step.others

-- ---- elements

pub record ElementAt (source : Source) (around : Around) (scope : Scope) (type : Ty) (at : ℕ) (trees : Trees) (i : ℕ) : Type 0 where
  pub tree : Tree
  pub there : tree_at trees i ≡ Some tree
  pub stands : StandsIn source around scope type (at + i * (8 * (extent_of source.layouts.now.structures type).size)) tree

pub element-at : (source : Source) (around : Around) (scope : Scope) (type : Ty) (at n : ℕ) (trees : Trees) (i : ℕ) → i < n → EachStandIn source around scope type at n trees → ElementAt source around scope type at trees i
element-at source around scope type at zero trees i lt s = absurd (omega arith)
element-at source around scope type at (suc n) trees zero lt s =
    let step = each-step source around type at n trees s.0 in
    let here : at ≡ at + 0 * (8 * (extent_of source.layouts.now.structures type).size) = omega arith in
    record { tree = step.tree; there = ap (λ x. tree_at x zero) step.is; stands = subst (λ k. StandsIn source around scope type k step.tree) here (step.first, each-first source around type at n trees s.0 ∙ s.1) }
element-at source around scope type at (suc n) trees (suc i) lt s =
    let stride = 8 * (extent_of source.layouts.now.structures type).size in
    let step = each-step source around type at n trees s.0 in
    let found = element-at source around scope type (at + stride) n step.rest i (omega arith) (step.others, each-others source around type at n trees s.0 ∙ s.1) in
    let here : at + stride + i * stride ≡ at + suc i * stride = omega arith in
    record { tree = found.tree; there = ap (λ x. tree_at x (suc i)) step.is ∙ found.there; stands = subst (λ k. StandsIn source around scope type k found.tree) here found.stands }

pub no-element : (source : Source) (around : Around) (type : Ty) (at n : ℕ) (trees : Trees) (i : ℕ) → n ≤ i → EachStands source around type at n trees → tree_at trees i ≡ None
no-element source around type at zero trees i le s = ap (λ x. tree_at x i) (is-no_more trees s.as_many)
no-element source around type at (suc n) trees zero le s = absurd (omega arith)
no-element source around type at (suc n) trees (suc i) le s =
    let step = each-step source around type at n trees s in
    ap (λ x. tree_at x (suc i)) step.is ∙ no-element source around type (at + 8 * (extent_of source.layouts.now.structures type).size) n step.rest i (omega arith) step.others

-- ---- structures

module _ {program : Program} {blocks : Blocks} {capacity : ℕ} {scope : Scope} where
  pub node-has : (node : TypeId) (desc : Option Expr) (tree : Tree) → Fits program blocks capacity scope (ty.Node node desc) tree → (y : Structure) × HasStructure program node y × (is_word tree ≡ false)
  node-has node desc tree (Fits.null p) = absurd (cc)
  node-has node desc tree (Fits.to m) = absurd m
  node-has node desc tree (Fits.struct {s} h u all) = (s, h, refl)
  node-has node desc tree (Fits.member {s} h u a g fits) = (s, h, refl)
  node-has node desc tree (Fits.common {s} h u a c w fits) = (s, h, refl)
  node-has node desc tree (Fits.nothing {s} h u a n) = (s, h, refl)
  node-has node desc tree (Fits.array e c each) = let o = outs-Node node desc in absurd (cc)
  node-has node desc tree (Fits.tail e v le c each) = let o = outs-Node node desc in absurd (cc)

-- ---- what is no leaf

cond-none : {X : Type 0} (b : Bool) (x : X) → cond b (Some x) None ≡ None → b ≡ false
cond-none true x e = absurd (cc)
cond-none false x e = refl

pub no-word : (source : Source) (around : Around) (type : Ty) (at : ℕ) (value : Tree) → leaf_kind type ≡ None → Stands source around type at value → is_word value ≡ false
no-word source around (ty.Num number) at value e s = absurd (cc)
no-word source around (ty.Bits unit width) at value e s =
    let found = number-here source around (ty.Bits unit width) at value s refl in
    let some : kind_of_shape (shape_of (ty.Bits unit width)) ≡ kind_of_shape (Some found.0) = ap kind_of_shape found.1 in
    absurd (cc)
no-word source around (ty.Opaque size align) at value e s =
    let found = is-opaque size align value s.fits in
    ap is_word found.1 ∙ ap (λ n. n == 8) found.2 ∙ cond-none (size == 8) _ e
no-word source around (ty.Str count) at value e s = absurd (cc)
no-word source around (ty.Ptr target kind reorder) at value e s = absurd (cc)
no-word source around (ty.Node node desc) at value e s = (node-has node desc value s.fits).2
no-word source around (ty.Arr' n shape elem) at value e s = let row = array-stands source around (ty.Arr' n shape elem) _ at n value (outs-Arr' n shape elem) s in ap is_word row.is
no-word source around (ty.Tail' count shape elem) at value e s = let found = tail-stands source around (ty.Tail' count shape elem) _ at count value (outs-Tail' count shape elem) s in ap is_word found.row.is
