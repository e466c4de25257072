-- `print` has an answer.
use Rattle.std.proofs.Common.{◌≡◌, ℕ, zero, suc, List, [], ◌∷◌, ◌++◌, map, refl, ap, sym, subst, ◌∙◌, inl, inr, Option, Some, None}
use Rattle.std.specs.Prelude.{option_map, slice_get}
use Rattle.std.proofs.lemmas.List.Elements.{All-contains}
use Rattle.gt_types.specs.declared.types.Ty.{Ty}
use Rattle.gt_types.specs.declared.program.Root.{Root}
use Rattle.gt_types.specs.declared.program.Program.{Program}
use Rattle.gt_types.specs.Settled.{Settled}
use Rattle.gt_layout.specs.declared.planes.Layouts.{Layouts}
use Rattle.gt_script.specs.declared.command.Hop.{Hop}
use Rattle.gt_script.specs.declared.command.Hop.TheVariants.{Name}
use Rattle.gt_script.specs.declared.command.Route.{Route}
use Rattle.gt_tree.specs.Trees.{Tree, Trees, tree_at, part_at, part_of}
use Rattle.gt_tree.specs.Blocks.{Blocks, element_type}
use Rattle.gt_tree.specs.Scopes.{Scope, Typed, typed, ◌then◌}
use Rattle.gt_tree.specs.Fits.{AllFit, EachFits}
use Rattle.gt_tree.proofs.PathBits.{some-same}
use Rattle.gt_show.specs.BlockTexts.{ShowsBlock}
use Rattle.gt_graph.specs.Objects.{Object, Graph, blocks_of, elements_in, object_of}
use Rattle.gt_graph.specs.Good.{IsGraph, IsObject}
use Rattle.gt_graph.specs.Changes.{Owner, Statics, Of}
use Rattle.gt_objects.proofs.Naming.{object_is}
use Rattle.gt_next.specs.States.{State, IsGoodState}
use Rattle.gt_next.specs.Spots.{Spot, Standing, Whole, Value, in_object, standing_in, standing_at, typed_part, type_of_part}
use Rattle.gt_next.specs.Paths.{Begins, Follows, Steps, StepsIn, Walks}
use Rattle.gt_next.specs.Next.{NextPrint, ShowsStanding}
use Rattle.gt_total.proofs.FitTexts.{HasText, block_text, fits_text}
use Rattle.gt_total.proofs.PartTexts.{step_text, then_some}
use Rattle.gt_total.proofs.Getting.{PathEnds}
use Rattle.gt_total.proofs.Splits.{Never}

-- ---- what stands further on

value_same : (t u : Typed) → Value t ≡ Value u → t ≡ u
value_same t u e = cc

mapped : {X Y : Type 0} (f : X → Y) (o : Option X) (y : Y) → option_map f o ≡ Some y → (x : X) × (o ≡ Some x) × (f x ≡ y)
mapped f None y e = absurd (cc)
mapped {X} {Y} f (Some x) y e = let same : f x ≡ y = cc in (x, refl, same)

-- the part at some places and more
more_part : (program : Program) (type : Ty) (tree : Tree) (path more : List ℕ) (t : Typed) → typed_part program type tree path ≡ Some t → typed_part program type tree (path ++ more) ≡ typed_part program t.type t.value more
more_part program type tree [] more t e = let same : typed type tree ≡ t = cc in ap (λ u. typed_part program u.type u.value more) same
more_part program type tree (place ∷ path) more t e =
    let inner = then_some (type_of_part program type place) (λ i. part_at tree (place ∷ []) then (λ p. typed_part program i p path)) t e in
    let part = then_some (part_at tree (place ∷ [])) (λ p. typed_part program inner.0 p path) t inner.2 in
    ap (λ o. o then (λ i. part_at tree (place ∷ []) then (λ p. typed_part program i p (path ++ more)))) inner.1
    ∙ ap (λ o. o then (λ p. typed_part program inner.0 p (path ++ more))) part.1
    ∙ more_part program inner.0 part.0 path more t part.2

module _ (program : Program) (g : Graph) where
  more_value : (type : Ty) (tree : Tree) (path more : List ℕ) (t : Typed) → option_map Value (typed_part program type tree path) ≡ Some (Value t)
      → option_map Value (typed_part program type tree (path ++ more)) ≡ option_map Value (typed_part program t.type t.value more)
  more_value type tree path more t e =
      let found = mapped Value (typed_part program type tree path) (Value t) e in
      let same : found.0 ≡ t = value_same found.0 t found.2 in
      ap (option_map Value) (more_part program type tree path more t (found.1 ∙ ap (λ x. Some x) same))

  -- further on from a value
  further_value : (owner : Owner) (path more : List ℕ) (t : Typed) → standing_in program g owner path ≡ Some (Value t) → standing_in program g owner (path ++ more) ≡ option_map Value (typed_part program t.type t.value more)
  further_value Statics [] more t e = absurd (cc)
  further_value Statics (place ∷ path) more t e =
      let root = then_some (slice_get program.roots place) (λ r. tree_at g.statics place then (λ v. option_map Value (typed_part program r.ty v path))) (Value t) e in
      let value = then_some (tree_at g.statics place) (λ v. option_map Value (typed_part program root.0.ty v path)) (Value t) root.2 in
      ap (λ o. o then (λ r. tree_at g.statics place then (λ v. option_map Value (typed_part program r.ty v (path ++ more))))) root.1
      ∙ ap (λ o. o then (λ v. option_map Value (typed_part program root.0.ty v (path ++ more)))) value.1 ∙ more_value root.0.ty value.0 path more t value.2
  further_value (Of id) [] more t e = let o = then_some (object_of g.objects id) (λ o. Some (Whole o)) (Value t) e in absurd (let is = o.2 in cc)
  further_value (Of id) (place ∷ path) more t e =
      let o = then_some (object_of g.objects id) (λ o. in_object program o (place ∷ path)) (Value t) e in
      let element = then_some (part_at o.0.value (place ∷ [])) (λ v. option_map Value (typed_part program (element_type program o.0.kind) v path)) (Value t) o.2 in
      ap (λ x. x then (λ y. in_object program y (place ∷ (path ++ more)))) o.1
      ∙ ap (λ x. x then (λ v. option_map Value (typed_part program (element_type program o.0.kind) v (path ++ more)))) element.1
      ∙ more_value (element_type program o.0.kind) element.0 path more t element.2

  no_whole : (o : Object) (found : Option Typed) → option_map Value found ≡ Some (Whole o) → ⊥
  no_whole o None e = cc
  no_whole o (Some t) e = cc

  -- an object as a whole stands under its name alone
  whole_at : (o : Object) (owner : Owner) (path : List ℕ) → standing_in program g owner path ≡ Some (Whole o) → (id : ℕ) × (owner ≡ Of id) × (path ≡ []) × (object_of g.objects id ≡ Some o)
  whole_at o Statics [] e = absurd (cc)
  whole_at o Statics (place ∷ path) e =
      let root = then_some (slice_get program.roots place) (λ r. tree_at g.statics place then (λ v. option_map Value (typed_part program r.ty v path))) (Whole o) e in
      let value = then_some (tree_at g.statics place) (λ v. option_map Value (typed_part program root.0.ty v path)) (Whole o) root.2 in
      absurd (no_whole o (typed_part program root.0.ty value.0 path) value.2)
  whole_at o (Of id) [] e =
      let found = then_some (object_of g.objects id) (λ x. Some (Whole x)) (Whole o) e in
      let whole : Some (Whole found.0) ≡ Some (Whole o) = found.2 in
      let same : found.0 ≡ o = cc in
      (id, refl, refl, found.1 ∙ ap (λ x. Some x) same)
  whole_at o (Of id) (place ∷ path) e =
      let found = then_some (object_of g.objects id) (λ x. in_object program x (place ∷ path)) (Whole o) e in
      let element = then_some (part_at found.0.value (place ∷ [])) (λ v. option_map Value (typed_part program (element_type program found.0.kind) v path)) (Whole o) found.2 in
      absurd (no_whole o (typed_part program (element_type program found.0.kind) element.0 path) element.2)

  -- further on from an object
  further_whole : (o : Object) (owner : Owner) (path more : List ℕ) → standing_in program g owner path ≡ Some (Whole o) → standing_in program g owner (path ++ more) ≡ in_object program o more
  further_whole o owner path more e =
      let is = whole_at o owner path e in
      ap (λ w. standing_in program g w (path ++ more)) is.1 ∙ ap (λ p. standing_in program g (Of is.0) (p ++ more)) is.2 ∙ ap (λ x. x then (λ y. in_object program y more)) is.3

-- ---- texts

module _ (program : Program) (settled : Settled program) (g : Graph) (good : IsGraph program g) where
  abbrev blocks : Blocks
  blocks = blocks_of g.objects

  -- what stands at a spot, if something does, has a text
  abbrev Shown : Spot → Type 0
  Shown at = (what : Standing) → standing_at program g at ≡ Some what → (text : List ℕ) × ShowsStanding program g.objects what text

  value_shown : (t : Typed) (what : Standing) → HasText program blocks t.type t.value → Some (Value t) ≡ Some what → (text : List ℕ) × ShowsStanding program g.objects what text
  value_shown t what (text, shows) e =
      let same : Value t ≡ what = cc in
      (text, subst (λ w. ShowsStanding program g.objects w text) same (ShowsStanding.a_value shows))

  is_object : (id : ℕ) (o : Object) → object_of g.objects id ≡ Some o → IsObject program g o
  is_object id o e = All-contains (IsObject program g) g.objects o good.objects (object_is g.objects id o e).0

  object_shown : (o : Object) → IsObject program g o → (text : List ℕ) × ShowsStanding program g.objects (Whole o) text
  object_shown o is =
      let text = block_text o.kind is.fits.trees is.fits.each in
      (text.0, ShowsStanding.a_block (subst (λ v. ShowsBlock program blocks o.kind (elements_in v) text.0) (sym is.fits.row) text.1))

  element_there : {capacity : ℕ} {scope : Scope} {type : Ty} {trees : Trees} → EachFits program blocks capacity scope type trees → (place : ℕ) (tree : Tree) → part_of trees place [] ≡ Some tree → HasText program blocks type tree
  element_there EachFits.no_more place tree e = absurd (cc)
  element_there {type = type} (EachFits.one_more {tree = first} fits each) zero tree e = let same : first ≡ tree = cc in subst (λ t. HasText program blocks type t) same (fits_text fits)
  element_there (EachFits.one_more fits each) (suc place) tree e = element_there each place tree e

  element_text : (o : Object) → IsObject program g o → (place : ℕ) (tree : Tree) → part_at o.value (place ∷ []) ≡ Some tree → HasText program blocks (element_type program o.kind) tree
  element_text o is place tree e = element_there is.fits.each place tree (ap (λ v. part_at v (place ∷ [])) (sym is.fits.row) ∙ e)

  root_there : {scope : Scope} {types : List Ty} {trees : Trees} → AllFit program blocks 0 scope types trees → (roots : List Root) → types ≡ map (λ r. r.ty) roots → (place : ℕ) (r : Root) (tree : Tree)
      → slice_get roots place ≡ Some r → tree_at trees place ≡ Some tree → HasText program blocks r.ty tree
  root_there AllFit.none roots same place r tree e there = absurd (cc)
  root_there (AllFit.more fits all) [] same place r tree e there = absurd (cc)
  root_there (AllFit.more {type} {types} {tree = first} fits all) (q ∷ roots) same zero r tree e there =
      let type_is : type ≡ q.ty = cc in
      let root : q ≡ r = cc in
      let value : first ≡ tree = cc in
      subst (λ x. HasText program blocks x.ty tree) root (subst (λ t. HasText program blocks q.ty t) value (subst (λ t. HasText program blocks t first) type_is (fits_text fits)))
  root_there (AllFit.more {type} {types} fits all) (q ∷ roots) same (suc place) r tree e there =
      let rest : types ≡ map (λ r. r.ty) roots = cc in
      root_there all roots rest place r tree e there

  begin_shown : {s : State} {path : Route} {at : Spot} → Begins program s path at → Shown at
  begin_shown (Begins.at_variable {id} variable bound) what e =
      let found = then_some (object_of g.objects id) (λ x. Some (Whole x)) what e in
      let same : Whole found.0 ≡ what = let is = found.2 in cc in
      let text = object_shown found.0 (is_object id found.0 found.1) in
      (text.0, subst (λ w. ShowsStanding program g.objects w text.0) same text.1)
  begin_shown (Begins.at_root {place} root at) what e =
      let r = then_some (slice_get program.roots place) (λ r. tree_at g.statics place then (λ v. option_map Value (typed_part program r.ty v []))) what e in
      let value = then_some (tree_at g.statics place) (λ v. option_map Value (typed_part program r.0.ty v [])) what r.2 in
      value_shown (typed r.0.ty value.0) what (root_there good.statics program.roots refl place r.0 value.0 r.1 value.1) value.2

  -- a value that stands where a step begins has a text
  text_of_value : (t : Typed) (at : Spot) → Shown at → standing_at program g at ≡ Some (Value t) → HasText program blocks t.type t.value
  text_of_value t at shown e = by (Value t) refl (shown (Value t) e)
    where
      by : (what : Standing) → what ≡ Value t → ((text : List ℕ) × ShowsStanding program g.objects what text) → HasText program blocks t.type t.value
      by what is (text, ShowsStanding.a_value {t = u} shows) = let same : u ≡ t = value_same u t is in subst (λ x. HasText program blocks x.type x.value) same (text, shows)
      by what is (text, ShowsStanding.a_block shows) = absurd (cc)

  follow_text : {from at : Spot} → Follows program g from at → (t : Typed) → Shown from → standing_at program g at ≡ Some (Value t) → HasText program blocks t.type t.value
  follow_text (Follows.to_target {id} stands) t shown e = let found = then_some (object_of g.objects id) (λ x. Some (Whole x)) (Value t) e in absurd (let is = found.2 in cc)
  follow_text (Follows.at_value {at} stands plain) t shown e = text_of_value t at shown e
  follow_text (Follows.at_object {at} stands) t shown e = text_of_value t at shown e

  -- a part of an element
  part_shown : (o : Object) → IsObject program g o → (place : ℕ) (path : List ℕ) (what : Standing)
      → ((tree : Tree) → part_at o.value (place ∷ []) ≡ Some tree → (next : Typed) → typed_part program (element_type program o.kind) tree path ≡ Some next → HasText program blocks next.type next.value)
      → in_object program o (place ∷ path) ≡ Some what → (text : List ℕ) × ShowsStanding program g.objects what text
  part_shown o is place path what texts e =
      let tree = then_some (part_at o.value (place ∷ [])) (λ v. option_map Value (typed_part program (element_type program o.kind) v path)) what e in
      let next = mapped Value (typed_part program (element_type program o.kind) tree.0 path) what tree.2 in
      value_shown next.0 what (texts tree.0 tree.1 next.0 next.1) (ap (λ x. Some x) next.2)

  step_shown : {from to : Spot} {hop : Hop} → Steps program g from hop to → Shown from → Shown to
  step_shown (Steps.in_value {at} {t} {path} follows stands steps) shown what e =
      let text = follow_text follows t shown stands in
      let next = mapped Value (typed_part program t.type t.value path) what (sym (further_value program g at.owner at.path path t stands) ∙ e) in
      value_shown next.0 what (step_text program blocks settled steps text.0 text.1 next.0 next.1) (ap (λ x. Some x) next.2)
  step_shown (Steps.in_one {at} {name} {o} {t} {path} follows stands one steps) shown what e =
      let whole = whole_at program g o at.owner at.path stands in
      let is = is_object whole.0 o whole.3 in
      part_shown o is 0 path what (λ tree there next leads.
      let text = element_text o is 0 tree there in
      let same : one.1 ≡ tree = some-same (part_at o.value (0 ∷ [])) one.1 tree one.4 there in
      let type : t ≡ typed (element_type program o.kind) tree = one.5 ∙ ap (typed (element_type program o.kind)) same in
      step_text program blocks settled (subst (λ x. StepsIn program x (Name name) path) type steps) text.0 text.1 next leads)
      (sym (further_whole program g o at.owner at.path (0 ∷ path) stands) ∙ e)
  step_shown (Steps.to_element {at} {place} {o} follows stands within) shown what e =
      let whole = whole_at program g o at.owner at.path stands in
      let is = is_object whole.0 o whole.3 in
      part_shown o is place [] what (λ tree there next leads.
      let same : typed (element_type program o.kind) tree ≡ next = cc in
      subst (λ t. HasText program blocks t.type t.value) same (element_text o is place tree there))
      (sym (further_whole program g o at.owner at.path (place ∷ []) stands) ∙ e)

  walk_shown : {from to : Spot} {hops : List Hop} → Walks program g from hops to → Shown from → Shown to
  walk_shown Walks.there shown = shown
  walk_shown (Walks.onward step walk) shown = walk_shown walk (step_shown step shown)

pub some_print : (program : Program) (layouts : Layouts) → Settled program → (s : State) → IsGoodState program layouts s → (path : Route) → PathEnds program s path → ¬ Never (NextPrint program s path)
some_print program layouts settled s good path (inr (why, refused)) never = never _ _ (NextPrint.refused refused)
some_print program layouts settled s good path (inl (at, what, way, stands)) never =
    let text = walk_shown program settled s.heap.graph good.heap.graph way.walks (begin_shown program settled s.heap.graph good.heap.graph way.begins) what stands in
    never _ _ (NextPrint.shows way stands text.1)
