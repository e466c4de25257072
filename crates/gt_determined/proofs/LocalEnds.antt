-- One step from where it begins: in a value, or at an object.
use Rattle.std.proofs.Common.{◌≡◌, ℕ, ◌<◌, List, [], ◌∷◌, refl, ap, sym, subst, ◌∙◌, arith, Some, ◌⊎◌, inl, inr}
use Rattle.gt_types.specs.declared.types.TypeId.{TypeId}
use Rattle.gt_types.specs.declared.program.Program.{Program}
use Rattle.gt_types.specs.Settled.{Settled}
use Rattle.gt_script.specs.declared.command.Hop.{Hop}
use Rattle.gt_script.specs.declared.command.Hop.TheVariants.{Name, Index}
use Rattle.gt_tree.specs.Trees.{Tree, part_at}
use Rattle.gt_tree.specs.Blocks.{Kind, Nodes, element_type}
use Rattle.gt_tree.specs.Scopes.{Typed, typed, outside}
use Rattle.gt_graph.specs.Objects.{Object, Graph}
use Rattle.gt_graph.specs.Good.{IsObject}
use Rattle.gt_next.specs.declared.answer.Why.{Why}
use Rattle.gt_next.specs.declared.answer.Why.TheVariants.{WrongType, BadIndex}
use Rattle.gt_next.specs.Spots.{Spot, further, typed_part, Standing, Whole, Value, standing_at}
use Rattle.gt_next.specs.Paths.{StepsIn, RefusesIn, IsOne}
use Rattle.gt_determined.proofs.Decisions.{Known, known-same, known-less}
use Rattle.gt_determined.proofs.Outcomes.{Ends}
use Rattle.gt_determined.proofs.Parts.{FitsIn, part-there, element-fits}
use Rattle.gt_determined.proofs.HopEnds.{EndsIn}
use Rattle.gt_determined.proofs.ValueEnds.{value-ends}
use Rattle.gt_determined.proofs.Standings.{further-value, further-whole}

-- what stands at a spot is sound: an object of the graph, or a value that fits
abbrev pub IsSound : Program → Graph → Standing → Type 0
IsSound program g (Whole o) = IsObject program g o
IsSound program g (Value t) = FitsIn program g t

-- the places by which a step leads on from what stands where it begins
abbrev pub Goes : Program → Standing → Hop → List ℕ → Type 0
Goes program (Value t) hop path = StepsIn program t hop path
Goes program (Whole o) (Name name) path = (t : Typed) × (rest : List ℕ) × IsOne program o t × StepsIn program t (Name name) rest × (path ≡ 0 ∷ rest)
Goes program (Whole o) (Index place) path = (place < o.count) × (path ≡ place ∷ [])

-- why the step is refused there
abbrev pub Stops : Program → Standing → Hop → Why → Type 0
Stops program (Value t) hop why = RefusesIn program t hop why
Stops program (Whole o) (Name name) why = ((t : Typed) × IsOne program o t × RefusesIn program t (Name name) why) ⊎ (((t : Typed) → ¬ IsOne program o t) × (why ≡ WrongType))
Stops program (Whole o) (Index place) why = (¬ (place < o.count)) × (why ≡ BadIndex)

-- wherever it stands, the places lead on to a value that fits
abbrev pub Reaches : Program → Graph → Standing → List ℕ → Type 0
Reaches program g what path = (next : Typed) × FitsIn program g next × ((at : Spot) → standing_at program g at ≡ Some what → standing_at program g (further at path) ≡ Some (Value next))

abbrev pub LocalEnds : Program → Graph → Standing → Hop → Type 0
LocalEnds program g what hop = Ends (Goes program what hop) (Stops program what hop) (Reaches program g what)

value-local : (program : Program) → Settled program → (g : Graph) (t : Typed) (hop : Hop) → FitsIn program g t → LocalEnds program g (Value t) hop
value-local program settled g t hop fit = go (value-ends program settled g t hop fit)
  where
    go : EndsIn program g t hop → LocalEnds program g (Value t) hop
    go (Ends.ends path steps (next, leads, fits) one never) = Ends.ends path steps (next, fits, λ at e. further-value program g path t next leads at e) one never
    go (Ends.stops why r one never) = Ends.stops why r one never

-- ---- at an object

module _ (program : Program) (g : Graph) (o : Object) (sound : IsObject program g o) where
  -- the element at a place
  element : (place : ℕ) → place < o.count → (tree : Tree) × (part_at o.value (place ∷ []) ≡ Some tree) × FitsIn program g (typed (element_type program o.kind) tree)
  element place lt =
      let f = sound.fits in
      let as_many = f.as_many in
      let found = element-fits f.each place (omega (arith, as_many, lt)) in
      (found.0, ap (λ v. part_at v (place ∷ [])) f.row ∙ part-there f.trees place found.0 found.1, record { capacity = o.capacity; scope = outside g.statics; fits = found.2 })

  one-same : (t u : Typed) → IsOne program o t → IsOne program o u → u ≡ t
  one-same t u a b =
      let trees : Some b.1 ≡ Some a.1 = sym b.4 ∙ a.4 in
      let same : b.1 ≡ a.1 = cc in
      b.5 ∙ ap (typed (element_type program o.kind)) same ∙ sym a.5

  known-one : ((t : Typed) × IsOne program o t × FitsIn program g t) ⊎ ((t : Typed) → ¬ IsOne program o t)
  known-one = by-kind o.kind refl
    where
      of-node : (node : TypeId) → o.kind ≡ Nodes node → Known (o.count ≡ 1) → ((t : Typed) × IsOne program o t × FitsIn program g t) ⊎ ((t : Typed) → ¬ IsOne program o t)
      of-node node e (inl one) = let found = element 0 (omega (arith, one)) in inl (typed (element_type program o.kind) found.0, (node, found.0, e, one, found.1, refl), found.2)
      of-node node e (inr other) = inr (λ t one. other one.3)

      by-kind : (kind : Kind) → o.kind ≡ kind → ((t : Typed) × IsOne program o t × FitsIn program g t) ⊎ ((t : Typed) → ¬ IsOne program o t)
      by-kind (Nodes node) e = of-node node e (known-same o.count 1)
      by-kind kind e = inr (λ t one. let nodes = one.2 in cc)

  module _ (settled : Settled program) where
    -- a name in the one structure of an object
    one-ends : (name : List ℕ) (t : Typed) → IsOne program o t → EndsIn program g t (Name name) → LocalEnds program g (Whole o) (Name name)
    one-ends name t one (Ends.ends path steps (next, leads, fits) only never) =
        let leads_there = subst (λ u. typed_part program u.type u.value path ≡ Some next) one.5 leads in
        Ends.ends (0 ∷ path) (t, path, one, steps, refl)
        (next, fits, λ at e. further-whole program g o 0 path one.1 next one.4 leads_there at e)
        (λ other goes. goes.4 ∙ ap (λ p. 0 ∷ p) (only goes.1 (subst (λ u. StepsIn program u (Name name) goes.1) (one-same t goes.0 one goes.2) goes.3)))
        refused
      where
        refused : (why : Why) → ¬ Stops program (Whole o) (Name name) why
        refused why (inl (u, other, r)) = never why (subst (λ x. RefusesIn program x (Name name) why) (one-same t u one other) r)
        refused why (inr (none, e)) = none t one
    one-ends name t one (Ends.stops why r only never) =
        Ends.stops why (inl (t, one, r)) same (λ path goes. never goes.1 (subst (λ u. StepsIn program u (Name name) goes.1) (one-same t goes.0 one goes.2) goes.3))
      where
        same : (other : Why) → Stops program (Whole o) (Name name) other → other ≡ why
        same other (inl (u, is, no_step)) = only other (subst (λ x. RefusesIn program x (Name name) other) (one-same t u one is) no_step)
        same other (inr (none, e)) = absurd (none t one)

    object-ends : (hop : Hop) → LocalEnds program g (Whole o) hop
    object-ends (Name name) = go known-one
      where
        go : ((t : Typed) × IsOne program o t × FitsIn program g t) ⊎ ((t : Typed) → ¬ IsOne program o t) → LocalEnds program g (Whole o) (Name name)
        go (inl (t, one, fits)) = one-ends name t one (value-ends program settled g t (Name name) fits)
        go (inr none) = Ends.stops WrongType (inr (none, refl)) same (λ path goes. none goes.0 goes.2)
          where
            same : (other : Why) → Stops program (Whole o) (Name name) other → other ≡ WrongType
            same other (inl (t, one, r)) = absurd (none t one)
            same other (inr (no_one, e)) = e
    object-ends (Index place) = go (known-less place o.count)
      where
        go : Known (place < o.count) → LocalEnds program g (Whole o) (Index place)
        go (inl lt) =
            let found = element place lt in
            Ends.ends (place ∷ []) (lt, refl) (typed (element_type program o.kind) found.0, found.2, λ at e. further-whole program g o place [] found.0 (typed (element_type program o.kind) found.0) found.1 refl at e)
            (λ path goes. goes.1) (λ why stops. stops.0 lt)
        go (inr past) = Ends.stops BadIndex (past, refl) (λ why stops. stops.1) (λ path goes. past goes.0)

pub local-ends : (program : Program) → Settled program → (g : Graph) (what : Standing) (hop : Hop) → IsSound program g what → LocalEnds program g what hop
local-ends program settled g (Whole o) hop sound = object-ends program g o sound settled hop
local-ends program settled g (Value t) hop sound = value-local program settled g t hop sound
