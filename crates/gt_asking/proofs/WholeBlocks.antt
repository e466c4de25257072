-- The elements of an object as values that are read.
use Rattle.std.proofs.Common.{◌≡◌, ◌+◌, ℕ, zero, suc, List, [], ◌∷◌, ◌++◌, length, map, refl, ap, arith, sym, subst, ◌∙◌, Some, ◌⊎◌, inl, inr, Ok, Err, IfOk}
use Rattle.std.specs.Prelude.{slice_get}
use Rattle.std.specs.declared.result.Result.{Result}
use Rattle.gt_types.specs.declared.types.Ty.{Ty}
use Rattle.gt_types.specs.declared.program.Program.{Program}
use Rattle.gt_layout.specs.declared.planes.Layouts.{Layouts}
use Rattle.gt_space.specs.Range.{Range}
use Rattle.gt_tree.specs.Trees.{Tree, Row, Trees, End, And, count, part_at, part_of}
use Rattle.gt_tree.specs.Blocks.{Blocks, element_type}
use Rattle.gt_tree.specs.FixedLaws.{MayHold}
use Rattle.gt_tree.specs.Fits.{BlockFits}
use Rattle.gt_tree.proofs.PathBits.{some-same}
use Rattle.gt_value.specs.declared.values.Value.{Value}
use Rattle.gt_value.specs.Values.{trees, tree_of}
use Rattle.gt_value.specs.Names.{kind_of}
use Rattle.gt_value.specs.Bytes.{StandsFor, IsRoomFor}
use Rattle.gt_show.specs.BlockTexts.{ShowsBlock, ElementsFit}
use Rattle.gt_graph.specs.Objects.{Object, object_of, blocks_of, elements_in}
use Rattle.gt_graph.specs.Good.{Heap}
use Rattle.gt_objects.specs.declared.objects.Objects.{Objects}
use Rattle.gt_objects.specs.declared.objects.Known.{Known}
use Rattle.gt_objects.specs.Holding.{IsHeapOf}
use Rattle.gt_objects.specs.Knowing.{IsKnown, IsKnownAt}
use Rattle.gt_elements.specs.declared.parts.Element.{Element}
use Rattle.gt_elements.specs.Elements.{IsElementAt}
use Rattle.gt_routes.proofs.HeapSteps.{object-sound}
use Rattle.gt_asking.specs.Finding.{AreElements}

-- ---- one element

module _ (program : Program) (layouts : Layouts) (objects : Objects) (address place : ℕ) (e : Element) (type : Ty) (space : Range) (named : MayHold program (kind_of e.kind) → type ≡ element_type program (kind_of e.kind)) (spaces : space ≡ objects.space) where
  -- its type, and the bytes that stand for it
  type-there : (heap : Heap) → IsHeapOf program layouts objects heap → (at : IsElementAt program layouts heap objects.space address place (Some e)) → type ≡ element_type program at.0.kind
  type-there heap is (o, there, el) =
      let may = subst (MayHold program) el.kind (object-sound program heap.graph address o is.good.graph there).may_hold in
      named may ∙ ap (element_type program) (sym el.kind)

  pub inside-there : (heap : Heap) → IsHeapOf program layouts objects heap → (at : IsElementAt program layouts heap objects.space address place (Some e)) → IsRoomFor program layouts e.capacity type space e.addr
  inside-there heap is at =
      subst (λ t. IsRoomFor program layouts e.capacity t space e.addr) (sym (type-there heap is at)) (subst (λ r. IsRoomFor program layouts e.capacity (element_type program at.0.kind) r e.addr) (sym spaces) at.2.inside)

  pub stands-there : (heap : Heap) → IsHeapOf program layouts objects heap → (at : IsElementAt program layouts heap objects.space address place (Some e)) → StandsFor program layouts e.capacity type space e.addr at.2.tree
  stands-there heap is at =
      let s = at.2.stands in
      let stands : StandsFor program layouts e.capacity (element_type program at.0.kind) objects.space e.addr at.2.tree =
      record { kind = s.kind; held = s.held; of_kind = s.of_kind; size = s.size; takes = s.takes; blocks = _; statics = _; addresses = s.addresses; is = s.is } in
      subst (λ t. StandsFor program layouts e.capacity t space e.addr at.2.tree) (sym (type-there heap is at)) (subst (λ r. StandsFor program layouts e.capacity (element_type program at.0.kind) r e.addr at.2.tree) (sym spaces) stands)

  pub element-read : {E : Type 0} (result : Result Value E) → ((heap : Heap) → IsHeapOf program layouts objects heap → IsElementAt program layouts heap objects.space address place (Some e))
      → IfOk result (λ v. (value : Tree) → StandsFor program layouts e.capacity type space e.addr value → tree_of v ≡ value)
      → IfOk result (λ v. (heap : Heap) (o : Object) → IsHeapOf program layouts objects heap → object_of heap.graph.objects address ≡ Some o → part_at o.value (place ∷ []) ≡ Some (tree_of v))
  element-read (Ok v) found reads = λ heap o is there.
      let at = found heap is in
      let same : at.0 ≡ o = some-same (object_of heap.graph.objects address) at.0 o at.1 there in
      let is_tree : tree_of v ≡ at.2.tree = reads at.2.tree (stands-there heap is at) in
      ap (λ x. part_at x.value (place ∷ [])) (sym same) ∙ at.2.there ∙ ap Some (sym is_tree)
  element-read (Err e) found reads = tt

-- ---- all elements

length-more : {X : Type 0} (xs : List X) (x : X) → length (xs ++ x ∷ []) ≡ length xs + 1
length-more [] x = refl
length-more (y ∷ ys) x = let more = length-more ys x in omega (arith, more)

got-pushed : {X : Type 0} (xs : List X) (x y : X) (i : ℕ) → slice_get (xs ++ x ∷ []) i ≡ Some y → (slice_get xs i ≡ Some y) ⊎ ((i ≡ length xs) × (x ≡ y))
got-pushed [] x y zero e = let same : x ≡ y = cc in inr (refl, same)
got-pushed [] x y (suc i) e = absurd (cc)
got-pushed (z ∷ zs) x y zero e = inl e
got-pushed (z ∷ zs) x y (suc i) e = one-more (got-pushed zs x y i e)
  where
    one-more : (slice_get zs i ≡ Some y) ⊎ ((i ≡ length zs) × (x ≡ y)) → (slice_get zs i ≡ Some y) ⊎ ((suc i ≡ suc (length zs)) × (x ≡ y))
    one-more (inl h) = inl h
    one-more (inr (n, same)) = inr (ap suc n, same)

pub one-more-element : (program : Program) (layouts : Layouts) (objects : Objects) (address n : ℕ) (values : List Value) (v : Value) → AreElements program layouts objects address n values
    → ((heap : Heap) (o : Object) → IsHeapOf program layouts objects heap → object_of heap.graph.objects address ≡ Some o → part_at o.value (n ∷ []) ≡ Some (tree_of v))
    → (next : List Value) → next ≡ values ++ v ∷ [] → AreElements program layouts objects address (n + 1) next
one-more-element program layouts objects address n values v (long, are) last next e = subst (AreElements program layouts objects address (n + 1)) (sym e) (longer, all)
  where
    longer : length (values ++ v ∷ []) ≡ n + 1
    longer = length-more values v ∙ ap (λ k. k + 1) long

    all : (heap : Heap) (o : Object) → IsHeapOf program layouts objects heap → object_of heap.graph.objects address ≡ Some o → (i : ℕ) (w : Value) → slice_get (values ++ v ∷ []) i ≡ Some w → part_at o.value (i ∷ []) ≡ Some (tree_of w)
    all heap o is there i w g = go (got-pushed values v w i g)
      where
        go : (slice_get values i ≡ Some w) ⊎ ((i ≡ length values) × (v ≡ w)) → part_at o.value (i ∷ []) ≡ Some (tree_of w)
        go (inl h) = are heap o is there i w h
        go (inr (at, same)) = let n_is : i ≡ n = at ∙ long in ap (λ k. part_at o.value (k ∷ [])) n_is ∙ last heap o is there ∙ ap (λ x. Some (tree_of x)) same

rows-same : (ts : Trees) (vs : List Value) → length vs ≡ count ts → ((i : ℕ) (v : Value) → slice_get vs i ≡ Some v → part_of ts i [] ≡ Some (tree_of v)) → ts ≡ trees (map tree_of vs)
rows-same End [] e h = refl
rows-same End (v ∷ vs) e h = absurd (omega (arith, e))
rows-same (And t ts) [] e h = absurd (omega (arith, e))
rows-same (And t ts) (v ∷ vs) e h =
    let first : Some t ≡ Some (tree_of v) = h zero v refl in
    let same : t ≡ tree_of v = cc in
    let rest = rows-same ts vs (omega (arith, e)) (λ i w g. h (suc i) w g) in
    ap (λ x. And x ts) same ∙ ap (And (tree_of v)) rest

module _ (program : Program) (layouts : Layouts) (objects : Objects) (address : ℕ) (known : Known) (values : List Value) (are : AreElements program layouts objects address known.count values) where
  pub values-are : (heap : Heap) (o : Object) → IsHeapOf program layouts objects heap → object_of heap.graph.objects address ≡ Some o → IsKnown o known → o.value ≡ Row (trees (map tree_of values))
  values-are heap o is there k =
      let fits = (object-sound program heap.graph address o is.good.graph there).fits in
      let long : length values ≡ count fits.trees = are.0 ∙ sym k.count ∙ sym fits.as_many in
      fits.row ∙ ap Row (rows-same fits.trees values long (λ i v g. ap (λ x. part_at x (i ∷ [])) (sym fits.row) ∙ are.1 heap o is there i v g))

  pub elements-fit : (heap : Heap) → IsHeapOf program layouts objects heap → IsKnownAt heap.graph.objects address (Some known) → (blocks : Blocks) → blocks ≡ blocks_of heap.graph.objects
      → ElementsFit program blocks (kind_of known.kind) (trees (map tree_of values))
  elements-fit heap is (o, there, k) blocks named =
      let fits = (object-sound program heap.graph address o is.good.graph there).fits in
      let row = subst (BlockFits program (blocks_of heap.graph.objects) heap.graph.statics o.kind o.count o.capacity) (values-are heap o is there k) fits in
      let kinds = subst (λ q. BlockFits program (blocks_of heap.graph.objects) heap.graph.statics q o.count o.capacity (Row (trees (map tree_of values)))) k.kind row in
      (heap.graph.statics, o.count, o.capacity, subst (λ b. BlockFits program b heap.graph.statics (kind_of known.kind) o.count o.capacity (Row (trees (map tree_of values)))) (sym named) kinds)

  pub block-text : {E : Type 0} (result : Result (List ℕ) E) (blocks : Blocks) → ((heap : Heap) → IsHeapOf program layouts objects heap → blocks ≡ blocks_of heap.graph.objects)
      → ((heap : Heap) → IsHeapOf program layouts objects heap → IsKnownAt heap.graph.objects address (Some known))
      → IfOk result (λ text. ShowsBlock program blocks (kind_of known.kind) (trees (map tree_of values)) text)
      → IfOk result (λ text. (heap : Heap) (o : Object) → IsHeapOf program layouts objects heap → object_of heap.graph.objects address ≡ Some o → ShowsBlock program (blocks_of heap.graph.objects) o.kind (elements_in o.value) text)
  block-text (Ok text) blocks named found shown = λ heap o is there.
      let at = found heap is in
      let same : at.0 ≡ o = some-same (object_of heap.graph.objects address) at.0 o at.1 there in
      let k = subst (λ x. IsKnown x known) same at.2 in
      let one = subst (λ b. ShowsBlock program b (kind_of known.kind) (trees (map tree_of values)) text) (named heap is) shown in
      let two = subst (λ q. ShowsBlock program (blocks_of heap.graph.objects) q (trees (map tree_of values)) text) (sym k.kind) one in
      subst (λ ts. ShowsBlock program (blocks_of heap.graph.objects) o.kind ts text) (sym (ap elements_in (values-are heap o is there k))) two
  block-text (Err e) blocks named found shown = tt
