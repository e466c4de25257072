-- What stands at a spot, and at the spots further on.
use Rattle.std.proofs.Common.{◌≡◌, ℕ, List, [], ◌∷◌, ◌++◌, refl, ap, sym, subst, ◌∙◌, Option, Some, None}
use Rattle.std.specs.Prelude.{option_map, slice_get}
use Rattle.gt_types.specs.declared.types.Ty.{Ty}
use Rattle.gt_types.specs.declared.program.Program.{Program}
use Rattle.gt_tree.specs.Trees.{Tree, tree_at, part_at}
use Rattle.gt_tree.specs.Blocks.{element_type}
use Rattle.gt_tree.specs.Scopes.{Typed, typed, ◌then◌}
use Rattle.gt_graph.specs.Objects.{Object, Graph, object_of}
use Rattle.gt_graph.specs.Changes.{Owner, Statics, Of}
use Rattle.gt_next.specs.Spots.{Spot, spot, further, type_of_part, typed_part, Whole, Value, in_object, standing_in, standing_at}
use Rattle.gt_determined.proofs.Parts.{part-one}

pub then-some : {X Y : Type 0} (o : Option X) (f : X → Option Y) (y : Y) → (o then f) ≡ Some y → (x : X) × (o ≡ Some x) × (f x ≡ Some y)
then-some None f y e = absurd (cc)
then-some (Some x) f y e = (x, refl, e)

pub map-some : {X Y : Type 0} (f : X → Y) (o : Option X) (y : Y) → option_map f o ≡ Some y → (x : X) × (o ≡ Some x) × (f x ≡ y)
map-some f None y e = absurd (cc)
map-some {X} {Y} f (Some x) y e = let same : f x ≡ y = cc in (x, refl, same)

value-same : (t u : Typed) → Value t ≡ Value u → t ≡ u
value-same t u e = cc

-- ---- parts of parts

typed-part-append : (program : Program) (type : Ty) (tree : Tree) (path more : List ℕ) (t : Typed) → typed_part program type tree path ≡ Some t → typed_part program type tree (path ++ more) ≡ typed_part program t.type t.value more
typed-part-append program type tree [] more t e = let same : typed type tree ≡ t = cc in ap (λ u. typed_part program u.type u.value more) same
typed-part-append program type tree (place ∷ path) more t e =
    let inner = then-some (type_of_part program type place) (λ i. part_at tree (place ∷ []) then (λ p. typed_part program i p path)) t e in
    let part = then-some (part_at tree (place ∷ [])) (λ p. typed_part program inner.0 p path) t inner.2 in
    part-one program type inner.0 tree part.0 place (path ++ more) inner.1 part.1 ∙ typed-part-append program inner.0 part.0 path more t part.2

-- ---- further from a value

module _ (program : Program) (g : Graph) (path : List ℕ) (t next : Typed) (leads : typed_part program t.type t.value path ≡ Some next) where
  -- what is shown of a value at some places is shown of its part further on
  on : (type : Ty) (tree : Tree) (places : List ℕ) → option_map Value (typed_part program type tree places) ≡ Some (Value t) → option_map Value (typed_part program type tree (places ++ path)) ≡ Some (Value next)
  on type tree places e =
      let found = map-some Value (typed_part program type tree places) (Value t) e in
      let same : found.0 ≡ t = value-same found.0 t found.2 in
      let there : typed_part program type tree places ≡ Some t = found.1 ∙ ap Some same in
      ap (option_map Value) (typed-part-append program type tree places path t there ∙ leads)

  further-in : (owner : Owner) (places : List ℕ) → standing_in program g owner places ≡ Some (Value t) → standing_in program g owner (places ++ path) ≡ Some (Value next)
  further-in Statics [] e = absurd (cc)
  further-in Statics (place ∷ places) e =
      let root = then-some (slice_get program.roots place) (λ r. tree_at g.statics place then (λ v. option_map Value (typed_part program r.ty v places))) (Value t) e in
      let value = then-some (tree_at g.statics place) (λ v. option_map Value (typed_part program root.0.ty v places)) (Value t) root.2 in
      ap (λ o. o then (λ r. tree_at g.statics place then (λ v. option_map Value (typed_part program r.ty v (places ++ path))))) root.1
      ∙ ap (λ o. o then (λ v. option_map Value (typed_part program root.0.ty v (places ++ path)))) value.1 ∙ on root.0.ty value.0 places value.2
  further-in (Of id) [] e = let o = then-some (object_of g.objects id) (λ o. Some (Whole o)) (Value t) e in absurd (cc)
  further-in (Of id) (place ∷ places) e =
      let o = then-some (object_of g.objects id) (λ o. in_object program o (place ∷ places)) (Value t) e in
      let element = then-some (part_at o.0.value (place ∷ [])) (λ v. option_map Value (typed_part program (element_type program o.0.kind) v places)) (Value t) o.2 in
      ap (λ x. x then (λ y. in_object program y (place ∷ (places ++ path)))) o.1
      ∙ ap (λ x. x then (λ v. option_map Value (typed_part program (element_type program o.0.kind) v (places ++ path)))) element.1 ∙ on (element_type program o.0.kind) element.0 places element.2

  pub further-value : (at : Spot) → standing_at program g at ≡ Some (Value t) → standing_at program g (further at path) ≡ Some (Value next)
  further-value at e = further-in at.owner at.path e

-- ---- an object as a whole

no-whole : (o : Object) (found : Option Typed) → option_map Value found ≡ Some (Whole o) → ⊥
no-whole o None e = cc
no-whole o (Some t) e = cc

whole-in : (program : Program) (g : Graph) (o : Object) (owner : Owner) (path : List ℕ) → standing_in program g owner path ≡ Some (Whole o)
    → (id : ℕ) × (owner ≡ Of id) × (path ≡ []) × (object_of g.objects id ≡ Some o)
whole-in program g o Statics [] e = absurd (cc)
whole-in program g o Statics (place ∷ path) e =
    let root = then-some (slice_get program.roots place) (λ r. tree_at g.statics place then (λ v. option_map Value (typed_part program r.ty v path))) (Whole o) e in
    let value = then-some (tree_at g.statics place) (λ v. option_map Value (typed_part program root.0.ty v path)) (Whole o) root.2 in
    absurd (no-whole o (typed_part program root.0.ty value.0 path) value.2)
whole-in program g o (Of id) [] e =
    let found = then-some (object_of g.objects id) (λ x. Some (Whole x)) (Whole o) e in
    let whole : Some (Whole found.0) ≡ Some (Whole o) = found.2 in
    let same : found.0 ≡ o = cc in
    (id, refl, refl, found.1 ∙ ap Some same)
whole-in program g o (Of id) (place ∷ path) e =
    let found = then-some (object_of g.objects id) (λ x. in_object program x (place ∷ path)) (Whole o) e in
    let element = then-some (part_at found.0.value (place ∷ [])) (λ v. option_map Value (typed_part program (element_type program found.0.kind) v path)) (Whole o) found.2 in
    absurd (no-whole o (typed_part program (element_type program found.0.kind) element.0 path) element.2)

-- an object as a whole stands where its name is all of the spot
pub whole-at : (program : Program) (g : Graph) (o : Object) (at : Spot) → standing_at program g at ≡ Some (Whole o) → (id : ℕ) × (at ≡ spot (Of id) []) × (object_of g.objects id ≡ Some o)
whole-at program g o at e =
    let found = whole-in program g o at.owner at.path e in
    let same : spot at.owner at.path ≡ spot (Of found.0) [] = ap (λ owner. spot owner at.path) found.1 ∙ ap (λ path. spot (Of found.0) path) found.2 in
    (found.0, same, found.3)

-- an element of an object, and a part of this
pub further-whole : (program : Program) (g : Graph) (o : Object) (place : ℕ) (path : List ℕ) (element : Tree) (next : Typed) → part_at o.value (place ∷ []) ≡ Some element
    → typed_part program (element_type program o.kind) element path ≡ Some next → (at : Spot) → standing_at program g at ≡ Some (Whole o) → standing_at program g (further at (place ∷ path)) ≡ Some (Value next)
further-whole program g o place path element next part leads at e =
    let found = whole-at program g o at e in
    subst (λ a. standing_at program g (further a (place ∷ path)) ≡ Some (Value next)) (sym found.1)
    (ap (λ x. x then (λ y. in_object program y (place ∷ path))) found.2
    ∙ ap (λ x. x then (λ v. option_map Value (typed_part program (element_type program o.kind) v path))) part ∙ ap (option_map Value) leads)
