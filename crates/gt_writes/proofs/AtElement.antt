-- What is known where a leaf of an element is written.
use Rattle.std.proofs.Common.{Bool, ◌≡◌, ◌≢◌, ℕ, ◌<◌, List, refl, ap, sym, subst, ◌∙◌, Option, Some, None, option_map, inl, inr}
use Rattle.std.specs.Prelude.{[], ◌∷◌, true}
use Rattle.std.proofs.lemmas.Bool.{false≢true}
use Rattle.std.proofs.lemmas.List.Elements.{All-contains}
use Rattle.gt_types.specs.declared.types.Ty.{Ty}
use Rattle.gt_types.specs.declared.program.Program.{Program}
use Rattle.gt_types.specs.Settled.{Settled}
use Rattle.gt_layout.specs.declared.planes.Layouts.{Layouts}
use Rattle.gt_layout.specs.Planes.{IsLaidOut}
use Rattle.gt_layout.specs.Excess.{IsWithin}
use Rattle.gt_space.specs.Range.{Range, IsSpace}
use Rattle.gt_tree.specs.Trees.{Tree, tree_at, part_at}
use Rattle.gt_tree.specs.Blocks.{Chars, element_type}
use Rattle.gt_tree.specs.Scopes.{Typed, ◌then◌}
use Rattle.gt_tree.specs.FixedLaws.{MayHold}
use Rattle.gt_tree.specs.Reshapes.{Assigns}
use Rattle.gt_tree.proofs.PathBits.{some-same}
use Rattle.gt_value.specs.declared.places.LeafContent.{LeafContent}
use Rattle.gt_value.specs.declared.places.Place.{Place}
use Rattle.gt_value.specs.Places.{IsContentOf}
use Rattle.gt_value.specs.Names.{kind_of}
use Rattle.gt_value.specs.declared.names.BlockKind.{BlockKind}
use Rattle.gt_store.specs.Leaf.{IsLeafWritten}
use Rattle.gt_leaf.specs.Writing.{is_number_leaf}
use Rattle.gt_graph.specs.Objects.{Object, Graph, object_of, blocks_of}
use Rattle.gt_graph.specs.Changes.{Owner, Of, Writes, AssignsElement}
use Rattle.gt_graph.specs.Good.{Heap, IsObject}
use Rattle.gt_objects.specs.declared.objects.Objects.{Objects}
use Rattle.gt_objects.specs.Holding.{IsHeapOf}
use Rattle.gt_objects.proofs.Naming.{mapped_some, object_is}
use Rattle.gt_elements.specs.declared.parts.Element.{Element}
use Rattle.gt_elements.specs.Elements.{IsElementOf, IsElementAt, IsFirstOf}
use Rattle.gt_elements.specs.InHeap.{IsWrittenInHeap}
use Rattle.gt_elements.proofs.InPlace.{in_heap}
use Rattle.gt_next.specs.Leaves.{is_word_type}
use Rattle.gt_next.specs.Spots.{Value, spot, standing_at, in_object, typed_part}
use Rattle.gt_writes.specs.SpotWrites.{SpotTakes, IsTreeOf, IsWrittenAt, MisfitsAt}
use Rattle.gt_writes.specs.Rewriting.{StandsIn, MayPutIn, IsInActive, ElementMisfits, IsElementRewritten}
use Rattle.gt_writes.specs.Typing.{type_along, is_some_word}
use Rattle.gt_writes.specs.FoundLeaves.{LeafLiesAt, LiesInElement}
use Rattle.gt_writes.proofs.SpotTypes.{along-typed, leaf-fits}
use Rattle.gt_writes.proofs.Replacing.{place_part, place_low, stored_in_heap}
use Rattle.gt_writes.proofs.LeafForms.{form_by, tree_means, one_tree}

abbrev pub option_of : Element → Option Element
option_of e = Some e

pub value_same : (x y : Typed) → Value x ≡ Value y → x ≡ y
value_same x y e = cc

of_same : (a b : ℕ) → Of a ≡ Of b → a ≡ b
of_same a b e = cc

place_same : (a b : ℕ) (xs ys : List ℕ) → a ∷ xs ≡ b ∷ ys → a ≡ b
place_same a b xs ys e = cc

pub rest_same : (a b : ℕ) (xs ys : List ℕ) → a ∷ xs ≡ b ∷ ys → xs ≡ ys
rest_same a b xs ys e = cc

-- a leaf that was found in an element lies in it
pub lies_here : (program : Program) (layouts : Layouts) (range : Range) (here e : Element) → option_of here ≡ option_of e → (type : Ty) → type ≡ element_type program (kind_of here.kind) → (path : List ℕ) (place : Place)
    → LiesInElement program layouts range e path place → LeafLiesAt program layouts here.capacity type range here.addr path place
lies_here program layouts range here e same type is path place lies =
    let one : e ≡ here = cc in
    subst (λ t. LeafLiesAt program layouts here.capacity t range here.addr path place) (sym is) (subst (λ x. LiesInElement program layouts range x path place) one lies)

-- the element to which a path first leads is the one at its first place
pub first_there : (program : Program) (layouts : Layouts) (objects : Objects) (heap : Heap) (owner : Owner) (address : ℕ) → owner ≡ Of address → (path : List ℕ) (place : ℕ) (rest : List ℕ) → path ≡ place ∷ rest → (e : Element)
    → IsFirstOf program layouts objects heap owner path e → IsElementAt program layouts heap objects.space address place (Some e)
first_there program layouts objects heap owner address is path place rest split e f =
    let addresses = of_same f.address address (sym f.owner_is ∙ is) in
    let places = place_same f.place place f.rest rest (sym f.path_is ∙ split) in
    subst (λ a. IsElementAt program layouts heap objects.space a place (Some e)) addresses
    (subst (λ p. IsElementAt program layouts heap objects.space f.address p (Some e)) places f.there)

module _ (program : Program) (layouts : Layouts) (objects : Objects) (heap : Heap) (is : IsHeapOf program layouts objects heap) (address place : ℕ) (rest : List ℕ) (o : Object) (found : object_of heap.graph.objects address ≡ Some o) where
  pub is_object : IsObject program heap.graph o
  is_object = All-contains (IsObject program heap.graph) heap.graph.objects o is.good.graph.objects (object_is heap.graph.objects address o found).0

  -- a walk from the object on
  walk_in : (t : Typed) → standing_at program heap.graph (spot (Of address) (place ∷ rest)) ≡ Some (Value t) → in_object program o (place ∷ rest) ≡ Some (Value t)
  walk_in t standing = sym (ap (λ x. x then λ q. in_object program q (place ∷ rest)) found) ∙ standing

  -- what stands at a spot stands in an element
  pub element_low : (t : Typed) → standing_at program heap.graph (spot (Of address) (place ∷ rest)) ≡ Some (Value t) → place < o.count
  element_low t standing = go (part_at o.value (place ∷ [])) refl (walk_in t standing)
    where
      go : (p : Option Tree) → part_at o.value (place ∷ []) ≡ p → (p then λ element. option_map Value (typed_part program (element_type program o.kind) element rest)) ≡ Some (Value t) → place < o.count
      go None e h = absurd (cc)
      go (Some element) e h =
          let fits = is_object.fits in
          let there : tree_at fits.trees place ≡ Some element = sym (place_part fits.trees place) ∙ sym (ap (λ v. part_at v (place ∷ [])) fits.row) ∙ e in
          subst (λ n. place < n) fits.as_many (place_low fits.trees place element there)

  -- an object that is found under the name is this one
  pub one_found : (q : Object) → object_of heap.graph.objects address ≡ Some q → q ≡ o
  one_found q e = some-same (object_of heap.graph.objects address) q o e found

  module _ (e : Element) (here : IsElementOf program layouts heap objects.space o place e) (type : Ty) (same : type ≡ element_type program o.kind) where
    -- a walk from the element on
    pub walk_on : (t : Typed) → standing_at program heap.graph (spot (Of address) (place ∷ rest)) ≡ Some (Value t) → typed_part program type here.tree rest ≡ Some t
    walk_on t standing =
        let on = sym (ap (λ x. x then λ element. option_map Value (typed_part program (element_type program o.kind) element rest)) here.there) ∙ walk_in t standing in
        let found_there = mapped_some Value (typed_part program (element_type program o.kind) here.tree rest) (Value t) on in
        subst (λ k. typed_part program k here.tree rest ≡ Some t) (sym same) (found_there.1 ∙ ap (λ x. Some x) (value_same found_there.0 t found_there.2))

    pub stands_here : StandsIn program layouts heap e.capacity type objects.space e.addr here.tree
    stands_here = subst (λ k. StandsIn program layouts heap e.capacity k objects.space e.addr here.tree) (sym same) here.stands

    -- a write of the heap is one of the element
    pub no_write : (leaf : Tree) → ElementMisfits program heap e.capacity type here.tree rest leaf → (g : Graph) → Writes program heap.graph (Of address) (place ∷ rest) leaf g → ⊥
    no_write leaf misfits g (Writes.in_object {o = q} {value} found_here assigns) =
        let one : q ≡ o = one_found q found_here in
        let its = subst (λ x. AssignsElement program heap.graph x (place ∷ rest) leaf value) one assigns in
        let lists = its.leads in
        let place_is : its.place ≡ place = cc in
        let rest_is : its.rest ≡ rest = cc in
        let there : part_at o.value (place ∷ []) ≡ Some its.old_element = ap (λ v. part_at v (place ∷ [])) its.row ∙ place_part its.elements place ∙ subst (λ i. tree_at its.elements i ≡ Some its.old_element) place_is its.there in
        let old : its.old_element ≡ here.tree = some-same (part_at o.value (place ∷ [])) its.old_element here.tree there here.there in
        misfits its.new_element
        (subst (λ k. Assigns program (blocks_of heap.graph.objects) heap.graph.statics e.capacity k here.tree rest leaf its.new_element) (sym same)
        (subst (λ c. Assigns program (blocks_of heap.graph.objects) heap.graph.statics c (element_type program o.kind) here.tree rest leaf its.new_element) here.capacity
        (subst (λ p. Assigns program (blocks_of heap.graph.objects) heap.graph.statics o.capacity (element_type program o.kind) here.tree p leaf its.new_element) rest_is
        (subst (λ v. Assigns program (blocks_of heap.graph.objects) heap.graph.statics o.capacity (element_type program o.kind) v its.rest leaf its.new_element) old its.assigns))))

    -- what is written
    module _ (settled : Settled program) (laid : IsLaidOut program layouts) (within : IsWithin program layouts) (space : IsSpace objects.space) (leaf : LeafContent) (takes : SpotTakes program heap.graph (spot (Of address) (place ∷ rest)) leaf) where
      plain : o.kind ≢ Chars
      plain = takes.no_string address o refl found

      -- a leaf that was written in place is written at the spot
      pub put_at : (at : Place) → MayPutIn program layouts heap e.capacity type e.addr here.tree rest leaf objects.space at → IsInActive at leaf → (new : Objects) → new ≡ record objects { space = new.space } → IsLeafWritten at leaf objects.space new.space
          → IsWrittenAt program layouts heap (Of address) (place ∷ rest) leaf new
      put_at at may active new others written =
          let m = subst (λ k. MayPutIn program layouts heap e.capacity k e.addr here.tree rest leaf objects.space at) same may in
          let done = m.writes new.space written in
          let walk = subst (λ k. typed_part program k here.tree rest ≡ Some takes.t) same (walk_on takes.t takes.standing) in
          let fits = λ (number : is_number_leaf leaf ≡ true). leaf-fits m.at.lies (sym m.at.is.active_is ∙ is_active number) _ done.tree done.assigns.fits takes.t walk in
          record {
            t = takes.t;
            standing = takes.standing;
            tree = done.tree;
            is = form_by takes.t.type leaf done.tree done.means fits;
            written = subst (IsWrittenInHeap program layouts heap (Of address) (place ∷ rest) done.tree) (sym others)
                (in_heap program layouts settled laid within objects heap is space address o found plain place e here rest leaf new.space done);
          }
        where
          is_active : is_number_leaf leaf ≡ true → at.active ≡ true
          is_active number = elim active [ inl on ↦ on | inr other ↦ absurd (false≢true (sym other ∙ number)) ]

      -- so is one with which the element was stored anew
      pub anew_at : (tree : Tree) → IsTreeOf takes.t.type leaf tree → (new : Objects) → new ≡ record objects { space = new.space } → IsElementRewritten program layouts heap e.capacity type e.addr here.tree rest tree objects.space new.space
          → IsWrittenAt program layouts heap (Of address) (place ∷ rest) leaf new
      anew_at tree tree_is new others done =
          let its = subst (λ n. IsElementRewritten program layouts heap n (element_type program o.kind) e.addr here.tree rest tree objects.space new.space) (sym here.capacity)
          (subst (λ k. IsElementRewritten program layouts heap e.capacity k e.addr here.tree rest tree objects.space new.space) same done) in
          record {
            t = takes.t;
            standing = takes.standing;
            tree = tree;
            is = tree_is;
            written = subst (IsWrittenInHeap program layouts heap (Of address) (place ∷ rest) tree) (sym others)
                (stored_in_heap program layouts settled laid within objects heap is space address o found plain place e here rest tree its.next new.space its.assigns its.stored);
          }

    -- a leaf that fits with no value of the element fits with none of the heap
    pub misfit_all : (leaf : LeafContent) → ((tree : Tree) → IsContentOf leaf tree → ElementMisfits program heap e.capacity type here.tree rest tree) → MisfitsAt program heap (Of address) (place ∷ rest) leaf
    misfit_all leaf misfits t tree g standing tree_is writes = no_write tree (misfits tree (tree_means t.type leaf tree tree_is)) g writes

    pub misfit_one : (leaf : LeafContent) (t : Typed) → standing_at program heap.graph (spot (Of address) (place ∷ rest)) ≡ Some (Value t) → (tree : Tree) → IsTreeOf t.type leaf tree → ElementMisfits program heap e.capacity type here.tree rest tree
        → MisfitsAt program heap (Of address) (place ∷ rest) leaf
    misfit_one leaf t standing tree tree_is misfits other also g its is_tree writes =
        let one : other ≡ t = value_same other t (some-same (standing_at program heap.graph (spot (Of address) (place ∷ rest))) (Value other) (Value t) its standing) in
        let same_tree : also ≡ tree = one_tree t.type leaf also tree (subst (λ x. IsTreeOf x.type leaf also) one is_tree) tree_is in
        no_write tree misfits g (subst (λ x. Writes program heap.graph (Of address) (place ∷ rest) x g) same_tree writes)

    -- whether eight bytes that are never scanned lie there
    pub word_there : (t : Typed) → standing_at program heap.graph (spot (Of address) (place ∷ rest)) ≡ Some (Value t) → (is_word : Bool) → is_word ≡ is_some_word (type_along program (Some type) rest) → is_word ≡ is_word_type t.type
    word_there t standing is_word e = e ∙ ap is_some_word (along-typed program type here.tree rest t (walk_on t standing))

-- where there is no such element, nothing stands
pub nowhere : (program : Program) (layouts : Layouts) (objects : Objects) (heap : Heap) → IsHeapOf program layouts objects heap → (address place : ℕ) (rest : List ℕ) (leaf : LeafContent)
    → IsElementAt program layouts heap objects.space address place None → MisfitsAt program heap (Of address) (place ∷ rest) leaf
nowhere program layouts objects heap is address place rest leaf none t tree g standing tree_is (Writes.in_object {o} found assigns) = none o found (element_low program layouts objects heap is address place rest o found t standing)

-- the type that was found for an element is the type of elements of its object
pub type_is : (program : Program) (layouts : Layouts) (objects : Objects) (heap : Heap) → (is : IsHeapOf program layouts objects heap) → (address : ℕ) (o : Object) → object_of heap.graph.objects address ≡ Some o → (kind : BlockKind) (type : Ty)
    → (MayHold program (kind_of kind) → type ≡ element_type program (kind_of kind)) → o.kind ≡ kind_of kind → type ≡ element_type program o.kind
type_is program layouts objects heap is address o found kind type get kind_is =
    get (subst (MayHold program) kind_is (All-contains (IsObject program heap.graph) heap.graph.objects o is.good.graph.objects (object_is heap.graph.objects address o found).0).may_hold) ∙ ap (element_type program) (sym kind_is)
