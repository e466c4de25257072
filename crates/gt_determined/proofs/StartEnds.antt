-- A path of a good state begins at one spot, or has one refusal at its start.
use Rattle.std.proofs.Common.{◌≡◌, ℕ, Bool, true, false, [], ◌∷◌, refl, ap, ◌∙◌, Option, Some, None}
use Rattle.std.specs.Str.{bytes_eq}
use Rattle.gt_types.specs.declared.program.Program.{Program}
use Rattle.gt_layout.specs.declared.planes.Layouts.{Layouts}
use Rattle.gt_script.specs.declared.command.Route.{Route}
use Rattle.gt_tree.specs.Trees.{tree_at}
use Rattle.gt_tree.specs.Scopes.{typed, outside, ◌then◌}
use Rattle.gt_tree.proofs.PathBits.{some-same}
use Rattle.gt_tree.proofs.PathParts.{get-map}
use Rattle.gt_graph.specs.Changes.{Statics, Of}
use Rattle.gt_next.specs.declared.answer.Why.{Why}
use Rattle.gt_next.specs.declared.answer.Why.TheVariants.{Unbound, NoField}
use Rattle.gt_next.specs.States.{State, meaning, IsGoodState}
use Rattle.gt_next.specs.Spots.{Spot, spot, Whole, Value}
use Rattle.gt_next.specs.Paths.{root_of, Begins, RefusesStart}
use Rattle.gt_determined.proofs.Outcomes.{Ends}
use Rattle.gt_determined.proofs.Parts.{field-fits}
use Rattle.gt_determined.proofs.Actives.{found-at}
use Rattle.gt_determined.proofs.Grounds.{StandsAt, object-sound}

abbrev pub StartEnds : Program → State → Route → Type 0
StartEnds program s path = Ends (Begins program s path) (RefusesStart program s path) (StandsAt program s.heap.graph)

module _ {program : Program} {s : State} where
  by-variable : (path : Route) (id : ℕ) (start : Spot) → path.variable ≡ true → meaning s.variables path.name ≡ Some id → Begins program s path start → start ≡ spot (Of id) []
  by-variable path id start v m (Begins.at_variable {id = i} w n) = ap (λ j. spot (Of j) []) (some-same (meaning s.variables path.name) i id n m)
  by-variable path id start v m (Begins.at_root w r) = absurd (cc)

  by-root : (path : Route) (place : ℕ) (start : Spot) → path.variable ≡ false → root_of program path.name ≡ Some place → Begins program s path start → start ≡ spot Statics (place ∷ [])
  by-root path place start v r (Begins.at_variable w n) = absurd (cc)
  by-root path place start v r (Begins.at_root {place = i} w n) = ap (λ j. spot Statics (j ∷ [])) (some-same (root_of program path.name) i place n r)

  bound-start : (path : Route) (id : ℕ) (why : Why) → path.variable ≡ true → meaning s.variables path.name ≡ Some id → ¬ RefusesStart program s path why
  bound-start path id why v m (RefusesStart.unbound w n) = cc
  bound-start path id why v m (RefusesStart.no_root w n) = cc

  root-start : (path : Route) (place : ℕ) (why : Why) → path.variable ≡ false → root_of program path.name ≡ Some place → ¬ RefusesStart program s path why
  root-start path place why v r (RefusesStart.unbound w n) = cc
  root-start path place why v r (RefusesStart.no_root w n) = cc

  unbound-why : (path : Route) (why : Why) → path.variable ≡ true → RefusesStart program s path why → why ≡ Unbound
  unbound-why path why v (RefusesStart.unbound w n) = refl
  unbound-why path why v (RefusesStart.no_root w n) = absurd (cc)

  no_root-why : (path : Route) (why : Why) → path.variable ≡ false → RefusesStart program s path why → why ≡ NoField
  no_root-why path why v (RefusesStart.unbound w n) = absurd (cc)
  no_root-why path why v (RefusesStart.no_root w n) = refl

  no-variable : (path : Route) (start : Spot) → path.variable ≡ true → meaning s.variables path.name ≡ None → ¬ Begins program s path start
  no-variable path start v m (Begins.at_variable w n) = cc
  no-variable path start v m (Begins.at_root w n) = cc

  no-root : (path : Route) (start : Spot) → path.variable ≡ false → root_of program path.name ≡ None → ¬ Begins program s path start
  no-root path start v r (Begins.at_variable w n) = cc
  no-root path start v r (Begins.at_root w n) = cc

module _ (program : Program) (layouts : Layouts) (s : State) (good : IsGoodState program layouts s) (path : Route) where
  variable-ends : path.variable ≡ true → (found : Option ℕ) → meaning s.variables path.name ≡ found → StartEnds program s path
  variable-ends v None m = Ends.stops Unbound (RefusesStart.unbound v m) (λ why r. unbound-why path why v r) (λ start b. no-variable path start v m b)
  variable-ends v (Some id) m =
      let o = good.variables path.name id m in
      Ends.ends (spot (Of id) []) (Begins.at_variable v m)
      (record { what = Whole o.0; stands = ap (λ x. x then (λ y. Some (Whole y))) o.1; sound = object-sound program s.heap.graph id o.0 good.heap.graph o.1 })
      (λ start b. by-variable path id start v m b) (λ why r. bound-start path id why v m r)

  root-ends : path.variable ≡ false → (found : Option ℕ) → root_of program path.name ≡ found → StartEnds program s path
  root-ends v None r = Ends.stops NoField (RefusesStart.no_root v r) (λ why h. no_root-why path why v h) (λ start b. no-root path start v r b)
  root-ends v (Some place) r =
      let root = found-at (λ x. bytes_eq x.name path.name) program.roots place r in
      let value = field-fits good.heap.graph.statics place root.0.ty (get-map (λ x. x.ty) program.roots place root.0 root.1) in
      Ends.ends (spot Statics (place ∷ [])) (Begins.at_root v r)
      (record {
        what = Value (typed root.0.ty value.0);
        stands = ap (λ x. x then (λ y. tree_at s.heap.graph.statics place then (λ t. Some (Value (typed y.ty t))))) root.1 ∙ ap (λ x. x then (λ t. Some (Value (typed root.0.ty t)))) value.1;
        sound = record { capacity = 0; scope = outside s.heap.graph.statics; fits = value.2 };
      })
      (λ start b. by-root path place start v r b) (λ why h. root-start path place why v r h)

  pub start-ends : (b : Bool) → path.variable ≡ b → StartEnds program s path
  start-ends true v = variable-ends v (meaning s.variables path.name) refl
  start-ends false v = root-ends v (root_of program path.name) refl
