-- A block that is made at an address leaves one heap.
use Rattle.std.proofs.Common.{◌≡◌, List, [], ◌∷◌, map, refl, ap, sym, subst, ◌∙◌, inl, inr}
use Rattle.std.specs.Prelude.{All}
use Rattle.std.proofs.lemmas.List.Elements.{All-contains, All-head, All-tail}
use Rattle.gt_types.specs.declared.program.Program.{Program}
use Rattle.gt_layout.specs.declared.planes.Layouts.{Layouts}
use Rattle.gt_pages.specs.Ledger.{Block, Ledger, Room, Place, page_of}
use Rattle.gt_graph.specs.Objects.{Object, Graph}
use Rattle.gt_graph.specs.Places.{Placed, Places, ArePlacesOf, IsSizeFor}
use Rattle.gt_graph.specs.Changes.{Makes}
use Rattle.gt_graph.specs.Good.{Heap}
use Rattle.gt_determined.proofs.Insertions.{Climbs, climbs-from, climbs-map, map-climbs, inserts-one, inserts-contains}

-- where a block may lie there is room
pub place-room : (ledger : Ledger) (block : Block) → Place ledger block → ¬ (¬ Room ledger block.size)
place-room ledger block p none = let free = p.opens (λ shared. none (inl shared)) in none (inr (page_of block.address, free.0))

-- ---- order

addresses-climb : (program : Program) (layouts : Layouts) (objects : List Object) (places : Places) → ArePlacesOf program layouts objects places → Climbs (λ p. p.block.address) places.placed
addresses-climb program layouts objects places laid = climbs-from (λ p. p.block.address) places.placed (λ i p q a b. laid.rising i p q a b)

same-names : (placed : List Placed) → All (λ p. p.id ≡ p.block.address) placed → map (λ p. p.id) placed ≡ map (λ p. p.block.address) placed
same-names [] h = refl
same-names (p ∷ ps) h =
    let first = All-head (λ x. x.id ≡ x.block.address) p ps h in
    let rest = same-names ps (All-tail (λ x. x.id ≡ x.block.address) p ps h) in
    ap (λ n. n ∷ map (λ x. x.id) ps) first ∙ ap (λ ns. p.block.address ∷ ns) rest

names-climb : (program : Program) (layouts : Layouts) (objects : List Object) (places : Places) → ArePlacesOf program layouts objects places → Climbs (λ o. o.id) objects
names-climb program layouts objects places laid =
    map-climbs (λ o. o.id) objects
    (subst (Climbs (λ k. k)) (sym (same-names places.placed laid.by_address) ∙ laid.names) (climbs-map (λ p. p.block.address) places.placed (addresses-climb program layouts objects places laid)))

-- ---- one heap

object-same : (o p : Object) → o.id ≡ p.id → o.kind ≡ p.kind → o.count ≡ p.count → o.capacity ≡ p.capacity → o.value ≡ p.value → o ≡ p
object-same o p id kind count capacity value =
    ap (λ x. let made : Object = record { id = x; kind = o.kind; count = o.count; capacity = o.capacity; value = o.value } in made) id
    ∙ ap (λ x. let made : Object = record { id = p.id; kind = x; count = o.count; capacity = o.capacity; value = o.value } in made) kind
    ∙ ap (λ x. let made : Object = record { id = p.id; kind = p.kind; count = x; capacity = o.capacity; value = o.value } in made) count
    ∙ ap (λ x. let made : Object = record { id = p.id; kind = p.kind; count = p.count; capacity = x; value = o.value } in made) capacity
    ∙ ap (λ x. let made : Object = record { id = p.id; kind = p.kind; count = p.count; capacity = p.capacity; value = x } in made) value

placed-same : (p q : Placed) → p.id ≡ q.id → p.block.address ≡ q.block.address → p.block.size ≡ q.block.size → p ≡ q
placed-same p q id address size =
    ap (λ x. let made : Placed = record { id = x; block = p.block } in made) id
    ∙ ap (λ x. let made : Placed = record { id = q.id; block = record { address = x; size = p.block.size } } in made) address
    ∙ ap (λ x. let made : Placed = record { id = q.id; block = record { address = q.block.address; size = x } } in made) size

module _ (program : Program) (layouts : Layouts) (old : Heap) where
  -- the size of the new block
  pub made-size : (o : Object) (p : Placed) (new : Heap) → Makes program layouts old o p new → IsSizeFor program layouts o p.block.size
  made-size o p new m = m.laid.sizes o p (inserts-contains o old.graph.objects new.graph.objects m.objects) (inserts-contains p old.places.placed new.places.placed m.places) m.named

  -- its name is its address
  pub made-name : (o : Object) (p : Placed) (new : Heap) → Makes program layouts old o p new → o.id ≡ p.block.address
  made-name o p new m = sym m.named ∙ All-contains (λ x. x.id ≡ x.block.address) new.places.placed p m.laid.by_address (inserts-contains p old.places.placed new.places.placed m.places)

  pub made-one : (o x : Object) (p q : Placed) (new other : Heap) → Makes program layouts old o p new → Makes program layouts old x q other → p.block.address ≡ q.block.address → p.block.size ≡ q.block.size
      → o.kind ≡ x.kind → o.count ≡ x.count → o.capacity ≡ x.capacity → o.value ≡ x.value → (new ≡ other) × (o.id ≡ x.id)
  made-one o x p q new other a b address size kind count capacity value =
      let id : o.id ≡ x.id = made-name o p new a ∙ address ∙ sym (made-name x q other b) in
      let object : o ≡ x = object-same o x id kind count capacity value in
      let placed : p ≡ q = placed-same p q (a.named ∙ id ∙ sym b.named) address size in
      let objects : new.graph.objects ≡ other.graph.objects =
      inserts-one (λ y. y.id) o x old.graph.objects new.graph.objects other.graph.objects object a.objects b.objects
      (names-climb program layouts new.graph.objects new.places a.laid) (names-climb program layouts other.graph.objects other.places b.laid) in
      let places : new.places.placed ≡ other.places.placed =
      inserts-one (λ y. y.block.address) p q old.places.placed new.places.placed other.places.placed placed a.places b.places
      (addresses-climb program layouts new.graph.objects new.places a.laid) (addresses-climb program layouts other.graph.objects other.places b.laid) in
      let graph : new.graph ≡ other.graph = a.graph ∙ ap (λ os. let g : Graph = record old.graph { objects = os } in g) objects ∙ sym b.graph in
      let rest : new.places ≡ other.places = a.rest ∙ ap (λ ps. let r : Places = record old.places { placed = ps } in r) places ∙ sym b.rest in
      (ap (λ g. let h : Heap = record { graph = g; places = new.places } in h) graph ∙ ap (λ r. let h : Heap = record { graph = other.graph; places = r } in h) rest, id)
