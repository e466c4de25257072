-- A step in a value that fits leads to one part, which fits, or has one refusal.
use Rattle.std.proofs.Common.{◌≡◌, ℕ, ◌<◌, false, [], ◌∷◌, refl, ap, sym, subst, ◌∙◌, Option, Some, None, ◌⊎◌, inl, inr}
use Rattle.gt_types.specs.declared.expressions.Expr.{Expr}
use Rattle.gt_types.specs.declared.types.Ty.{Ty, out-Ty}
use Rattle.gt_types.specs.declared.types.Ty.TheOpen as part
use Rattle.gt_types.specs.declared.types.Ty.TheOpen.{Ty-F}
use Rattle.gt_types.specs.declared.types.Ty.TheVariants as ty
use Rattle.gt_types.specs.declared.program.Program.{Program}
use Rattle.gt_types.specs.Settled.{Settled}
use Rattle.gt_script.specs.declared.command.Hop.{Hop}
use Rattle.gt_script.specs.declared.command.Hop.TheVariants.{Name, Index}
use Rattle.gt_tree.specs.Trees.{Tree, Row, Trees, count}
use Rattle.gt_tree.specs.Scopes.{Scope, Typed, typed}
use Rattle.gt_tree.specs.Fits.{Fits, EachFits}
use Rattle.gt_tree.proofs.FixedParts.{is-array, is-tail}
use Rattle.gt_graph.specs.Objects.{Graph, blocks_of}
use Rattle.gt_next.specs.declared.answer.Why.TheVariants.{WrongType, BadIndex}
use Rattle.gt_next.specs.Spots.{element_at, element_of}
use Rattle.gt_next.specs.Paths.{StepsIn, is_some_type, is_suited, RefusesIn}
use Rattle.gt_determined.proofs.Decisions.{Known, known-less}
use Rattle.gt_determined.proofs.Outcomes.{Ends}
use Rattle.gt_determined.proofs.Parts.{FitsIn, part-one, part-there, element-part, element-fits}
use Rattle.gt_determined.proofs.Hops.{index-suited, steps-suited, unsuited, element-steps, element-refused}
use Rattle.gt_determined.proofs.HopEnds.{EndsIn, name-ends}

-- an array has as many elements as its type says, or as its length says
array-layer : (x : Ty-F Ty) (elem : Ty) → element_at x ≡ Some elem → ((n : ℕ) × (x ≡ part.Arr n elem)) ⊎ ((length : Expr) × (x ≡ part.Tail length elem))
array-layer (part.Arr n elem') elem e = let same : elem' ≡ elem = cc in inl (n, ap (part.Arr n) same)
array-layer (part.Tail length elem') elem e = let same : elem' ≡ elem = cc in inr (length, ap (part.Tail length) same)
array-layer x elem e = absurd (cc)

unsuited-ends : (program : Program) (g : Graph) (t : Typed) (hop : Hop) → is_suited t.type hop ≡ false → EndsIn program g t hop
unsuited-ends program g t hop e = Ends.stops WrongType (RefusesIn.not_suited e) (λ why r. unsuited e r) (λ path steps. let suited = steps-suited steps in cc)

module _ (program : Program) (g : Graph) (capacity : ℕ) (scope : Scope) (type elem : Ty) (e : element_of type ≡ Some elem) (place : ℕ) where
  row-ends : (trees : Trees) → EachFits program (blocks_of g.objects) capacity scope elem trees → EndsIn program g (typed type (Row trees)) (Index place)
  row-ends trees each = go (known-less place (count trees))
    where
      go : Known (place < count trees) → EndsIn program g (typed type (Row trees)) (Index place)
      go (inl lt) =
          let part = element-fits each place lt in
          Ends.ends (place ∷ []) (StepsIn.to_element e lt)
          (typed elem part.0, part-one program type elem (Row trees) part.0 place [] (element-part program type elem place e) (part-there trees place part.0 part.1), record { capacity = capacity; scope = scope; fits = part.2 })
          (λ path steps. (element-steps type trees place path steps).0) (λ why r. (element-refused type elem trees place why e r).1 lt)
      go (inr past) = Ends.stops BadIndex (RefusesIn.no_element e past) (λ why r. (element-refused type elem trees place why e r).0) (λ path steps. past (element-steps type trees place path steps).1)

  array-ends : (tree : Tree) → Fits program (blocks_of g.objects) capacity scope type tree → EndsIn program g (typed type tree) (Index place)
  array-ends tree fits = go (array-layer (out-Ty type) elem e)
    where
      go : ((n : ℕ) × (out-Ty type ≡ part.Arr n elem)) ⊎ ((length : Expr) × (out-Ty type ≡ part.Tail length elem)) → EndsIn program g (typed type tree) (Index place)
      go (inl (n, is)) = let found = is-array type elem n tree is fits in subst (λ t. EndsIn program g (typed type t) (Index place)) (sym found.1) (row-ends found.0 found.3)
      go (inr (length, is)) = let found = is-tail type elem length tree is fits in subst (λ t. EndsIn program g (typed type t) (Index place)) (sym found.1) (row-ends found.0 found.3)

index-ends : (program : Program) (g : Graph) (capacity : ℕ) (scope : Scope) (type : Ty) (place : ℕ) (tree : Tree) → Fits program (blocks_of g.objects) capacity scope type tree → EndsIn program g (typed type tree) (Index place)
index-ends program g capacity scope type place tree fits = go (element_of type) refl
  where
    go : (found : Option Ty) → element_of type ≡ found → EndsIn program g (typed type tree) (Index place)
    go None e = unsuited-ends program g (typed type tree) (Index place) (index-suited type place ∙ ap is_some_type e)
    go (Some elem) e = array-ends program g capacity scope type elem e place tree fits

-- any step in any value that fits
typed-ends : (program : Program) → Settled program → (g : Graph) (capacity : ℕ) (scope : Scope) (type : Ty) (tree : Tree) (hop : Hop) → Fits program (blocks_of g.objects) capacity scope type tree → EndsIn program g (typed type tree) hop
typed-ends program settled g capacity scope type tree (Index place) fits = index-ends program g capacity scope type place tree fits
typed-ends program settled g capacity scope (ty.Node node desc) tree (Name name) fits = name-ends program settled g node desc name capacity scope tree fits
typed-ends program settled g capacity scope type tree (Name name) fits = unsuited-ends program g (typed type tree) (Name name) refl

pub value-ends : (program : Program) → Settled program → (g : Graph) (t : Typed) (hop : Hop) → FitsIn program g t → EndsIn program g t hop
value-ends program settled g t hop fit = typed-ends program settled g fit.capacity fit.scope t.type t.value hop fit.fits
