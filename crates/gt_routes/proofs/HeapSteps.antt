-- Steps from objects, and where paths start.
use Rattle.std.proofs.Common.{◌≡◌, ◌<◌, ℕ, zero, suc, Bool, true, false, cond, List, [], ◌∷◌, ◌++◌, refl, ap, sym, subst, ◌∙◌, arith, Option, Some}
use Rattle.std.specs.Prelude.{◌==◌, option_map, not, find, Contains}
use Rattle.std.proofs.lemmas.List.Elements.{All-contains}
use Rattle.gt_types.specs.declared.types.TypeId.{TypeId}
use Rattle.gt_types.specs.declared.types.Ty.{Ty}
use Rattle.gt_types.specs.declared.program.Program.{Program}
use Rattle.gt_layout.specs.declared.planes.Layouts.{Layouts}
use Rattle.gt_script.specs.declared.command.Hop.{Hop}
use Rattle.gt_tree.specs.Trees.{Tree, Trees, End, And, count, tree_at, part_at, part_of}
use Rattle.gt_tree.specs.Blocks.{Nodes, element_type}
use Rattle.gt_tree.specs.FixedLaws.{MayHold}
use Rattle.gt_tree.specs.Scopes.{Typed, typed, ◌then◌}
use Rattle.gt_tree.proofs.PathBegins.{one-number}
use Rattle.gt_value.specs.declared.cursors.Cursor.{Cursor}
use Rattle.gt_value.specs.declared.names.BlockKind.{BlockKind}
use Rattle.gt_value.specs.declared.names.BlockKind.TheVariants as held
use Rattle.gt_value.specs.Names.{kind_of}
use Rattle.gt_value.specs.Bytes.{StandsFor, StandForStatics}
use Rattle.gt_value.specs.Places.{Part}
use Rattle.gt_value.specs.Cursors.{Frame, frame, element_part, root_part, IsAt, IsAtRoot}
use Rattle.gt_graph.specs.Objects.{Object, Graph, object_of}
use Rattle.gt_graph.specs.Changes.{Owner, Statics, Of}
use Rattle.gt_graph.specs.Good.{Heap, IsObject, IsGraph}
use Rattle.gt_objects.specs.declared.objects.Objects.{Objects}
use Rattle.gt_objects.specs.Holding.{IsHeapOf}
use Rattle.gt_elements.specs.declared.parts.Element.{Element}
use Rattle.gt_elements.specs.Elements.{IsElementAt, IsFirstOf, RootsStand}
use Rattle.gt_next.specs.Spots.{Spot, spot, Whole, Value, standing_at, passes_none, is_in_none}
use Rattle.gt_next.specs.Paths.{IsOne}
use Rattle.gt_routes.specs.declared.steps.Step.{Step}
use Rattle.gt_routes.specs.declared.reaching.End.TheVariants as ends
use Rattle.gt_routes.specs.Steps.{StandsAt, LeadsFrom, along}
use Rattle.gt_routes.specs.Reaching.{IsValueAt, IsElementEnd, IsFirstBy, IsInElement, IsInFirst, holds_nodes}
use Rattle.gt_routes.proofs.TypedParts.{whole-is, whole-active}
use Rattle.gt_routes.proofs.Passes.{one-of-none}
use Rattle.gt_routes.proofs.SpotParts.{then-some, in-none, value-same}

-- ---- objects by their names

find-contains : {X : Type 0} (p : X → Bool) (xs : List X) (x : X) → find p xs ≡ Some x → Contains xs x
find-contains p [] x e = absurd (cc)
find-contains {X} p (y ∷ ys) x e = go (p y) (find-contains p ys x) e
  where
    go : (b : Bool) → (find p ys ≡ Some x → Contains ys x) → cond b (Some y) (find p ys) ≡ Some x → Contains (y ∷ ys) x
    go true later h = let same : y ≡ x = cc in (0, omega arith, same)
    go false later h = let c = later h in (suc c.0, omega (arith, c.1), c.2)

pub object-sound : (program : Program) (g : Graph) (id : ℕ) (o : Object) → IsGraph program g → object_of g.objects id ≡ Some o → IsObject program g o
object-sound program g id o good e = All-contains (IsObject program g) g.objects o good.objects (find-contains (λ x. x.id == id) g.objects o e)

-- an object stands as a whole where its name is all of the spot
pub whole-there : (program : Program) (g : Graph) (address : ℕ) (o : Object) → object_of g.objects address ≡ Some o → standing_at program g (spot (Of address) []) ≡ Some (Whole o)
whole-there program g address o e = ap (λ x. x then (λ y. Some (Whole y))) e

-- ---- elements

abbrev pub some-element : Element → Option Element
some-element e = Some e

below-count : (trees : Trees) (i : ℕ) (tree : Tree) → part_of trees i [] ≡ Some tree → i < count trees
below-count End i tree e = absurd (cc)
below-count (And t ts) zero tree e = omega arith
below-count (And t ts) (suc i) tree e = let lt = below-count ts i tree e in omega (arith, lt)

-- a cursor stands at a value of its own
whole-stands : (program : Program) (layouts : Layouts) (objects : Objects) (heap : Heap) (at : Spot) (address : ℕ) (c : Cursor) (value : Part) → IsAt (frame program layouts objects.space address) c value [] → value.active ≡ true
    → standing_at program heap.graph at ≡ Some (Value (typed value.type value.tree)) → is_in_none heap.graph at ≡ false → IsValueAt program layouts objects heap at c
whole-stands program layouts objects heap at address c value is active standing inside =
    let whole = whole-is is.lies in
    let same : typed value.type value.tree ≡ typed is.p.type is.p.tree = ap (λ t. typed t value.tree) whole.0 ∙ ap (typed is.p.type) whole.1 in
    record {
      frame = frame program layouts objects.space address;
      value = value;
      path = [];
      here = record { here = is; known = ap Some same };
      program_is = refl;
      layouts_is = refl;
      space_is = refl;
      standing = standing ∙ ap (λ t. Some (Value t)) same;
      active = whole-active is.lies ∙ active ∙ ap not (sym inside);
    }

pub element-end : (program : Program) (layouts : Layouts) (objects : Objects) (heap : Heap) (address place : ℕ) (e : Element) → IsHeapOf program layouts objects heap → IsElementAt program layouts heap objects.space address place (Some e)
    → (type : Ty) → (MayHold program (kind_of e.kind) → type ≡ element_type program (kind_of e.kind)) → (c : Cursor)
    → ((statics : Trees) (value : Tree) → StandsFor program layouts e.capacity type objects.space e.addr value → IsAt (frame program layouts objects.space e.addr) c (element_part statics type value) []) → IsElementEnd program layouts objects heap address place c
element-end program layouts objects heap address place e is (o, there, el) type named c stands =
    let g = heap.graph in
    let sound = object-sound program g address o is.good.graph there in
    let fits = sound.fits in
    let types : type ≡ element_type program o.kind = named (subst (MayHold program) el.kind sound.may_hold) ∙ ap (element_type program) (sym el.kind) in
    let row : part_of fits.trees place [] ≡ Some el.tree = ap (λ v. part_at v (place ∷ [])) (sym fits.row) ∙ el.there in
    let lt = below-count fits.trees place el.tree row in
    let s = el.stands in
    let stands_for : StandsFor program layouts e.capacity (element_type program o.kind) objects.space e.addr el.tree =
    record { kind = s.kind; held = s.held; of_kind = s.of_kind; size = s.size; takes = s.takes; blocks = _; statics = _; addresses = s.addresses; is = s.is } in
    let at = stands g.statics el.tree (subst (λ t. StandsFor program layouts e.capacity t objects.space e.addr el.tree) (sym types) stands_for) in
    let standing_as : standing_at program g (spot (Of address) (place ∷ [])) ≡ Some (Value (typed (element_type program o.kind) el.tree)) =
    ap (λ x. x then (λ y. part_at y.value (place ∷ []) then (λ v. Some (Value (typed (element_type program y.kind) v))))) there ∙ ap (λ x. x then (λ v. Some (Value (typed (element_type program o.kind) v)))) el.there in
    let inside = in-none g (spot (Of address) (place ∷ [])) o.value (ap (option_map (λ x. x.value)) there) ∙ ap (λ v. passes_none v (place ∷ [])) fits.row ∙ one-of-none fits.trees place in
    record {
      o = o;
      there = there;
      within = omega (arith, lt, fits.as_many);
      at = whole-stands program layouts objects heap (spot (Of address) (place ∷ [])) e.addr c (element_part g.statics type el.tree) at refl (standing_as ∙ ap (λ t. Some (Value (typed t el.tree))) (sym types)) inside;
    }

-- the element that was entered is the one to which a path of one place leads
pub first-entered : (program : Program) (layouts : Layouts) (objects : Objects) (heap : Heap) (address place : ℕ) (places : List ℕ) → places ≡ place ∷ [] → (entered e : Element)
    → IsElementAt program layouts heap objects.space address place (Some entered) → some-element entered ≡ some-element e → IsFirstOf program layouts objects heap (Of address) places e
first-entered program layouts objects heap address place places are entered e there same =
    let one : entered ≡ e = cc in
    record { address = address; place = place; rest = []; owner_is = refl; path_is = are; there = subst (λ x. IsElementAt program layouts heap objects.space address place (Some x)) one there }

-- it is the same one further on
pub first-further : (program : Program) (layouts : Layouts) (objects : Objects) (heap : Heap) (owner : Owner) (places path more : List ℕ) → more ≡ places ++ path → (first : Option Element)
    → IsFirstBy program layouts objects heap owner places first → IsFirstBy program layouts objects heap owner more first
first-further program layouts objects heap owner places path more are first known e same =
    let f = known e same in
    record { address = f.address; place = f.place; rest = f.rest ++ path; owner_is = f.owner_is; path_is = are ∙ ap (λ xs. xs ++ path) f.path_is; there = f.there }

-- ---- cursors in elements

-- a cursor at the begin of a value stands there by types and values as well
pub stands-whole : (at : Frame) (c : Cursor) (value : Part) → IsAt at c value [] → StandsAt at value [] c
stands-whole at c value is =
    let whole = whole-is is.lies in
    let same : typed value.type value.tree ≡ typed is.p.type is.p.tree = ap (λ t. typed t value.tree) whole.0 ∙ ap (typed is.p.type) whole.1 in
    record { here = is; known = ap Some same }

-- the type by which an element is read is the one of what its block holds
pub entered-inside : (program : Program) (layouts : Layouts) (objects : Objects) (heap : Heap) (address place : ℕ) (e : Element) → IsHeapOf program layouts objects heap → IsElementAt program layouts heap objects.space address place (Some e)
    → (type : Ty) → (MayHold program (kind_of e.kind) → type ≡ element_type program (kind_of e.kind)) → (c : Cursor)
    → ((statics : Trees) (value : Tree) → StandsFor program layouts e.capacity type objects.space e.addr value → IsAt (frame program layouts objects.space e.addr) c (element_part statics type value) []) → IsInElement program layouts objects e [] c
entered-inside program layouts objects heap address place e is (o, there, el) type named c stands statics value s =
    let sound = object-sound program heap.graph address o is.good.graph there in
    let types = named (subst (MayHold program) el.kind sound.may_hold) in
    let at = stands statics value (subst (λ t. StandsFor program layouts e.capacity t objects.space e.addr value) (sym types) s) in
    subst (λ t. StandsAt (frame program layouts objects.space e.addr) (element_part statics t value) [] c) types (stands-whole (frame program layouts objects.space e.addr) c (element_part statics type value) at)

-- a cursor at the begin of the element that was entered stands in it
pub first-inside : (program : Program) (layouts : Layouts) (objects : Objects) (place : ℕ) (places : List ℕ) → places ≡ place ∷ [] → (entered : Element) (c : Cursor) → IsInElement program layouts objects entered [] c
    → (first : Option Element) → first ≡ Some entered → IsInFirst program layouts objects first places c
first-inside program layouts objects place places are entered c inside first is e known =
    let one : entered ≡ e = cc in
    (place, [], are, subst (λ x. IsInElement program layouts objects x [] c) one inside)

-- so does one that a step in it leads to
pub inside-further : (program : Program) (layouts : Layouts) (objects : Objects) (first : Option Element) (places more : List ℕ) (at : Cursor) (hop : Hop) (step : Step) → LeadsFrom program at hop step → more ≡ places ++ along step
    → IsInFirst program layouts objects first places at → IsInFirst program layouts objects first more step.at
inside-further program layouts objects first places more at hop step leads are inside e known =
    let i = inside e known in
    let type = element_type program (kind_of e.kind) in (
      i.0,
      i.1 ++ along step,
      are ∙ ap (λ xs. xs ++ along step) i.2,
      λ statics value s. (leads (frame program layouts objects.space e.addr) (element_part statics type value) i.1 (i.3 statics value s) refl).there,
    )

-- a cursor is the one at the end
pub same-end : (program : Program) (layouts : Layouts) (objects : Objects) (first : Option Element) (places : List ℕ) (at : Cursor) → IsInFirst program layouts objects first places at
    → (c : Cursor) → ends.Value at ≡ ends.Value c → IsInFirst program layouts objects first places c
same-end program layouts objects first places at inside c same = let one : at ≡ c = cc in subst (IsInFirst program layouts objects first places) one inside

-- ---- roots

pub statics-for : (program : Program) (layouts : Layouts) (objects : Objects) (heap : Heap) → RootsStand program layouts objects heap → StandForStatics program layouts objects.space heap.graph.statics
statics-for program layouts objects heap r = let s = r.stand in record { blocks = _; addresses = s.addresses; are = s.are }

pub root-end : (program : Program) (layouts : Layouts) (objects : Objects) (heap : Heap) (place : ℕ) (c : Cursor) → IsAtRoot program layouts objects.space heap.graph.statics place c → IsValueAt program layouts objects heap (spot Statics (place ∷ [])) c
root-end program layouts objects heap place c r =
    let g = heap.graph in
    let standing : standing_at program g (spot Statics (place ∷ [])) ≡ Some (Value (typed r.r.ty r.tree)) =
    ap (λ x. x then (λ y. tree_at g.statics place then (λ v. Some (Value (typed y.ty v))))) r.root ∙ ap (λ x. x then (λ v. Some (Value (typed r.r.ty v)))) r.there in
    whole-stands program layouts objects heap (spot Statics (place ∷ [])) objects.space.start c (root_part g.statics place r.spot r.r r.tree) r.is refl standing (one-of-none g.statics place)

-- ---- steps

-- the one structure of an object
pub one-there : (program : Program) (g : Graph) (address : ℕ) (o : Object) (kind : BlockKind) (t : Typed) → object_of g.objects address ≡ Some o → o.kind ≡ kind_of kind → holds_nodes kind ≡ true → o.count ≡ 1
    → standing_at program g (spot (Of address) (0 ∷ [])) ≡ Some (Value t) → IsOne program o t
one-there program g address o kind t there is nodes one standing =
    let here : (part_at o.value (0 ∷ []) then (λ v. Some (Value (typed (element_type program o.kind) v)))) ≡ Some (Value t) =
    ap (λ x. x then (λ y. part_at y.value (0 ∷ []) then (λ v. Some (Value (typed (element_type program y.kind) v))))) (sym there) ∙ standing in
    let part = then-some (part_at o.value (0 ∷ [])) (λ v. Some (Value (typed (element_type program o.kind) v))) (Value t) here in
    let shown : Some (Value (typed (element_type program o.kind) part.0)) ≡ Some (Value t) = part.2 in
    let same : Value (typed (element_type program o.kind) part.0) ≡ Value t = cc in
    let node = node-of kind nodes in
    (node.0, part.0, is ∙ node.1, one, part.1, sym (value-same (typed (element_type program o.kind) part.0) t same))
  where
    node-of : (k : BlockKind) → holds_nodes k ≡ true → (node : TypeId) × (kind_of k ≡ Nodes node)
    node-of (held.Nodes node) e = (node, refl)
    node-of k e = absurd (cc)

-- an object of another kind has none
pub none-there : (program : Program) (o : Object) (kind : BlockKind) → o.kind ≡ kind_of kind → holds_nodes kind ≡ false → (t : Typed) → ¬ IsOne program o t
none-there program o kind is other t one = go kind is other one.2
  where
    go : (k : BlockKind) → o.kind ≡ kind_of k → holds_nodes k ≡ false → o.kind ≡ Nodes one.0 → ⊥
    go (held.Nodes node) i e h = cc
    go k i e h = cc

-- an object as a whole, under its name
pub object-end : (program : Program) (g : Graph) (address : ℕ) (places : List ℕ) (o : Object) → places ≡ [] → object_of g.objects address ≡ Some o
    → (x : Object) × (spot (Of address) places ≡ spot (Of x.id) []) × (standing_at program g (spot (Of address) places) ≡ Some (Whole x))
object-end program g address places o e there =
    let named : o.id ≡ address = find-named g.objects there in (
      o,
      ap (spot (Of address)) e ∙ ap (λ id. spot (Of id) []) (sym named),
      ap (λ xs. standing_at program g (spot (Of address) xs)) e ∙ whole-there program g address o there,
    )
  where
    found : (b : Bool) (x : Object) (rest : Option Object) → (x.id == address) ≡ b → (rest ≡ Some o → o.id ≡ address) → cond b (Some x) rest ≡ Some o → o.id ≡ address
    found true x rest same later h = let is : x ≡ o = cc in ap (λ (y : Object). y.id) (sym is) ∙ one-number x.id address same
    found false x rest same later h = later h

    find-named : (objects : List Object) → object_of objects address ≡ Some o → o.id ≡ address
    find-named [] h = absurd (cc)
    find-named (x ∷ xs) h = found (x.id == address) x (object_of xs address) refl (find-named xs) h
