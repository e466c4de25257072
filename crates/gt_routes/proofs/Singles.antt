-- Steps by names in objects, and steps that begin where a path stands.
use Rattle.std.proofs.Common.{◌≡◌, ℕ, true, false, List, [], ◌∷◌, ◌++◌, ap, sym, subst, ◌∙◌, Some}
use Rattle.std.specs.Prelude.{Option, Result, Ok, Err, OnOk}
use Rattle.gt_types.specs.declared.program.Program.{Program}
use Rattle.gt_types.specs.Shapes.{is_pointer}
use Rattle.gt_layout.specs.declared.planes.Layouts.{Layouts}
use Rattle.gt_script.specs.declared.command.Hop.{Hop}
use Rattle.gt_script.specs.declared.command.Hop.TheVariants.{Name}
use Rattle.gt_tree.specs.Trees.{Null, To}
use Rattle.gt_tree.specs.Scopes.{Typed, typed, ◌then◌}
use Rattle.gt_value.specs.declared.cursors.Cursor.{Cursor}
use Rattle.gt_value.specs.declared.names.BlockKind.{BlockKind}
use Rattle.gt_value.specs.Names.{kind_of}
use Rattle.gt_graph.specs.Objects.{Object, Graph, object_of}
use Rattle.gt_graph.specs.Changes.{Of}
use Rattle.gt_graph.specs.Good.{Heap}
use Rattle.gt_objects.specs.declared.objects.Objects.{Objects}
use Rattle.gt_objects.specs.Holding.{IsHeapOf}
use Rattle.gt_next.specs.declared.answer.Why.{Why}
use Rattle.gt_next.specs.declared.answer.Why.TheVariants.{WrongType, NullStep}
use Rattle.gt_next.specs.Spots.{Spot, spot, Standing, Whole, Value, standing_at}
use Rattle.gt_next.specs.Paths.{StepsIn, RefusesIn, Follows, Steps, RefusesStep, IsOne}
use Rattle.gt_routes.specs.declared.reaching.Reached.{Reached}
use Rattle.gt_routes.specs.Reaching.{spot_of, IsValueAt, LeadsWithin, StopsWithin, LeadsOn, StopsAt, holds_nodes}
use Rattle.gt_routes.proofs.SpotParts.{IsPartThere, then-some, value-same, standing-part}
use Rattle.gt_routes.proofs.Named.{names-object}
use Rattle.gt_routes.proofs.HeapSteps.{whole-there, one-there}

-- an object that is no single structure
pub not-single : (program : Program) (heap : Heap) (address : ℕ) (o : Object) (hop : Hop) (name : List ℕ) → hop ≡ Name name → object_of heap.graph.objects address ≡ Some o → ((t : Typed) → ¬ IsOne program o t)
    → StopsAt program heap (spot (Of address) []) hop WrongType
not-single program heap address o hop name is there none from follows =
    subst (λ h. RefusesStep program heap.graph from h WrongType) (sym is) (RefusesStep.not_one follows (whole-there program heap.graph address o there) none)

module _ (program : Program) (heap : Heap) (address : ℕ) (o : Object) (hop : Hop) (name : List ℕ) (is : hop ≡ Name name) (there : object_of heap.graph.objects address ≡ Some o) (kind : BlockKind) (of_kind : o.kind ≡ kind_of kind)
    (nodes : holds_nodes kind ≡ true) (one : o.count ≡ 1) (places : List ℕ) (places_are : places ≡ 0 ∷ []) where
  -- a step in the one structure of an object
  pub single-leads : (layouts : Layouts) (objects : Objects) (to : Reached) → LeadsWithin program layouts objects heap (spot (Of address) places) hop to → LeadsOn program layouts objects heap (spot (Of address) []) hop to
  single-leads layouts objects to l =
      let standing = ap (λ xs. standing_at program heap.graph (spot (Of address) xs)) (sym places_are) ∙ l.standing in
      let it = one-there program heap.graph address o kind l.t there of_kind nodes one standing in
      let named = subst (λ h. StepsIn program l.t h l.path) is l.steps in
      let spots : spot_of to ≡ spot (Of address) (0 ∷ l.path) = l.spot_is ∙ ap (λ xs. spot (Of address) (xs ++ l.path)) places_are in
      record {
        steps = λ from follows.
            subst (λ h. Steps program heap.graph from h (spot_of to)) (sym is)
            (subst (λ s. Steps program heap.graph from (Name name) s) (sym spots) (Steps.in_one follows (whole-there program heap.graph address o there) it named));
        ends = l.ends;
      }

  pub single-stops : (why : Why) → StopsWithin program heap (spot (Of address) places) hop why → StopsAt program heap (spot (Of address) []) hop why
  single-stops why (t, stands, refuses) from follows =
      let standing = ap (λ xs. standing_at program heap.graph (spot (Of address) xs)) (sym places_are) ∙ stands in
      let it = one-there program heap.graph address o kind t there of_kind nodes one standing in
      let named = subst (λ h. RefusesIn program t h why) is refuses in
      subst (λ h. RefusesStep program heap.graph from h why) (sym is) (RefusesStep.in_one follows (whole-there program heap.graph address o there) it named)

-- ---- where a step begins

standing-same : (a b : Typed) (o : Option Standing) → o ≡ Some (Value a) → o ≡ Some (Value b) → a ≡ b
standing-same a b o e h = let same : Value a ≡ Value b = cc in value-same a b same

module _ (program : Program) (layouts : Layouts) (objects : Objects) (heap : Heap) (from : Spot) (c : Cursor) (v : IsValueAt program layouts objects heap from c) where
  no-pointer : is_pointer c.ty.now ≡ false → (t : Typed) → standing_at program heap.graph from ≡ Some (Value t) → is_pointer t.type ≡ false
  no-pointer plain t e =
      let p = v.here.here.p in
      let same : t ≡ typed p.type p.tree = standing-same t (typed p.type p.tree) (standing_at program heap.graph from) e v.standing in
      ap (λ u. is_pointer u.type) same ∙ ap is_pointer (sym v.here.here.is.type_is) ∙ plain

  -- in a value that is no pointer
  pub value-leads : is_pointer c.ty.now ≡ false → (hop : Hop) (to : Reached) → LeadsWithin program layouts objects heap from hop to → Steps program heap.graph from hop (spot_of to)
  value-leads plain hop to l = subst (λ s. Steps program heap.graph from hop s) (sym l.spot_is) (Steps.in_value (Follows.at_value l.standing (no-pointer plain l.t l.standing)) l.standing l.steps)

  pub value-stops : is_pointer c.ty.now ≡ false → (hop : Hop) (why : Why) → StopsWithin program heap from hop why → RefusesStep program heap.graph from hop why
  value-stops plain hop why (t, standing, refuses) = RefusesStep.in_value (Follows.at_value standing (no-pointer plain t standing)) standing refuses

  -- at a pointer
  pub target-follows : (address : ℕ) → v.here.here.p.tree ≡ To address → Follows program heap.graph from (spot (Of address) [])
  target-follows address e = Follows.to_target (v.standing ∙ ap (λ t. Some (Value (typed v.here.here.p.type t))) e)

  pub null-stops : (hop : Hop) → v.here.here.p.tree ≡ Null → RefusesStep program heap.graph from hop NullStep
  null-stops hop e = RefusesStep.at_null (v.standing ∙ ap (λ t. Some (Value (typed v.here.here.p.type t))) e)

-- the object that a pointer names
pub target-object : (program : Program) (layouts : Layouts) (objects : Objects) (heap : Heap) (from : Spot) (c : Cursor) → IsHeapOf program layouts objects heap → (v : IsValueAt program layouts objects heap from c) (address : ℕ)
    → v.here.here.p.tree ≡ To address → (o : Object) × (object_of heap.graph.objects address ≡ Some o)
target-object program layouts objects heap from c is v address e =
    let p = v.here.here.p in
    let part = standing-part program heap.graph from.owner from.path (typed p.type p.tree) v.standing in
    names-object program heap.graph is.good.graph from.owner from.path address (subst (IsPartThere heap.graph from.owner from.path) e part)

-- at an object as a whole
pub whole-follows : (program : Program) (g : Graph) (from : Spot) (address : ℕ) (o : Object) → (from.owner ≡ Of address) → from ≡ spot (Of o.id) [] → standing_at program g from ≡ Some (Whole o) → Follows program g from (spot (Of address) [])
whole-follows program g from address o owner is standing =
    let owners : Of o.id ≡ Of address = ap (λ s. s.owner) (sym is) ∙ owner in
    let same : from ≡ spot (Of address) [] = is ∙ ap (λ x. spot x []) owners in
    subst (λ s. Follows program g from s) same (Follows.at_object standing)

pub on-ok : {X E : Type 0} (r : Result X E) {P Q : Type 0} → (P → Q) → OnOk r P → OnOk r Q
on-ok (Ok x) f p = f p
on-ok (Err e) f p = tt

-- the object of which a path stands as a whole
pub whole-there-at : (program : Program) (g : Graph) (from : Spot) (address : ℕ) (o : Object) → (from.owner ≡ Of address) → from ≡ spot (Of o.id) [] → standing_at program g from ≡ Some (Whole o) → (x : Object) × (object_of g.objects address ≡ Some x)
whole-there-at program g from address o owner is standing =
    let owners : Of o.id ≡ Of address = ap (λ s. s.owner) (sym is) ∙ owner in
    let same : from ≡ spot (Of address) [] = is ∙ ap (λ x. spot x []) owners in
    let there : (object_of g.objects address then (λ x. Some (Whole x))) ≡ Some (Whole o) = ap (standing_at program g) (sym same) ∙ standing in
    let found = then-some (object_of g.objects address) (λ x. Some (Whole x)) (Whole o) there in
    (found.0, found.1)
