-- A leaf of an element that was written in place is written in the heap.
use Rattle.std.proofs.Common.{◌≡◌, ◌≢◌, ℕ, zero, suc, ◌+◌, ◌*◌, ◌<◌, List, length, Some, refl, ap, sym, subst, ◌∙◌, arith}
use Rattle.std.specs.Prelude.{[], ◌∷◌, Contains}
use Rattle.gt_types.specs.declared.program.Program.{Program}
use Rattle.gt_types.specs.Settled.{Settled}
use Rattle.gt_layout.specs.declared.planes.Layouts.{Layouts}
use Rattle.gt_layout.specs.Planes.{IsLaidOut}
use Rattle.gt_layout.specs.Excess.{IsWithin}
use Rattle.gt_space.specs.Range.{Range, IsInside, IsSpace, bytes_at, with_bytes}
use Rattle.gt_space.proofs.RangeLemmas.{length-bytes_at}
use Rattle.gt_tree.specs.Trees.{Tree, Trees, End, And, count, tree_at, part_at, part_of, with_part}
use Rattle.gt_tree.specs.Blocks.{Chars, element_type}
use Rattle.gt_tree.specs.Scopes.{outside}
use Rattle.gt_tree.specs.Fits.{Fits}
use Rattle.gt_tree.specs.Leaves.{HasLeaves, Stand}
use Rattle.gt_tree.specs.FixedLaws.{IsValueOf}
use Rattle.gt_tree.specs.Reshapes.{Assigns}
use Rattle.gt_value.specs.declared.places.LeafContent.{LeafContent}
use Rattle.gt_value.specs.Bytes.{itself, Takes}
use Rattle.gt_leaf.specs.Writing.{IsWrittenInPlace}
use Rattle.gt_graph.specs.Objects.{Object, object_of, blocks_of}
use Rattle.gt_graph.specs.Changes.{Of, Writes, AssignsElement, with_value}
use Rattle.gt_graph.specs.Good.{Heap, IsObject}
use Rattle.gt_objects.specs.declared.objects.Objects.{Objects}
use Rattle.gt_objects.specs.Holding.{IsHeapOf}
use Rattle.gt_objects.proofs.Naming.{object_is, placed_of}
use Rattle.std.proofs.lemmas.List.Elements.{All-contains}
use Rattle.gt_elements.specs.declared.parts.Element.{Element}
use Rattle.gt_elements.specs.Elements.{IsElementOf}
use Rattle.gt_elements.specs.InHeap.{IsWrittenInHeap}
use Rattle.gt_elements.proofs.Replaced.{replaced}

-- the value at a place is the part there
tree_of_part : (trees : Trees) (i : ℕ) (tree : Tree) → part_of trees i [] ≡ Some tree → (tree_at trees i ≡ Some tree) × (i < count trees)
tree_of_part End i tree e = absurd (cc)
tree_of_part (And first trees) zero tree e = (e, omega arith)
tree_of_part (And first trees) (suc i) tree e = let rest = tree_of_part trees i tree e in (rest.0, omega (arith, rest.1))

module _ (program : Program) (layouts : Layouts) (settled : Settled program) (laid : IsLaidOut program layouts) (within : IsWithin program layouts) (objects : Objects) (heap : Heap) (is : IsHeapOf program layouts objects heap) (space : IsSpace objects.space)
    (address : ℕ) (o : Object) (found : object_of heap.graph.objects address ≡ Some o) (plain : o.kind ≢ Chars) (place : ℕ) (e : Element) (here : IsElementOf program layouts heap objects.space o place e)
    (rest : List ℕ) (leaf : LeafContent) (new : Range) (written : IsWrittenInPlace program layouts (blocks_of heap.graph.objects) heap.graph.statics e.capacity (element_type program o.kind) e.addr here.tree rest leaf objects.space new) where
  abbrev size : ℕ
  size = written.stands.size

  abbrev next : Tree
  next = with_part here.tree rest written.tree

  there : Contains heap.graph.objects o × (o.id ≡ address)
  there = object_is heap.graph.objects address o found

  is_object : IsObject program heap.graph o
  is_object = All-contains (IsObject program heap.graph) heap.graph.objects o is.good.graph.objects there.0

  at : (tree_at is_object.fits.trees place ≡ Some here.tree) × (place < count is_object.fits.trees)
  at = tree_of_part is_object.fits.trees place here.tree (sym (ap (λ v. part_at v (place ∷ [])) is_object.fits.row) ∙ here.there)

  lies : e.addr ≡ o.id + size * place
  lies = here.lies size written.stands.takes

  room : IsInside objects.space e.addr size
  room = here.inside size written.stands.takes

  takes : Takes program layouts o.capacity (element_type program o.kind) size
  takes = subst (λ n. Takes program layouts n (element_type program o.kind) size) (sym here.capacity) written.stands.takes

  low : place < o.count
  low = subst (λ n. place < n) is_object.fits.as_many at.1

  abbrev form : List ℕ
  form = bytes_at new e.addr size

  sized : length form ≡ size
  sized =
      let start = written.written.addresses.start in
      let long = written.written.addresses.len in
      let inside : IsInside new e.addr size = record { from_start = omega (arith, start, room.from_start); to_end = omega (arith, start, long, room.to_end) } in
      length-bytes_at new e.addr size inside

  put : new ≡ with_bytes objects.space (o.id + size * place) form
  put = subst (λ a. new ≡ with_bytes objects.space a form) lies written.same

  value : IsValueOf program layouts (blocks_of heap.graph.objects) heap.graph.statics o.kind o.capacity itself 0 (bytes_at new (o.id + size * place) size) next
  value =
      let s = written.stands in
      record {
        leaves = s.is.leaves;
        fits = subst (λ n. Fits program (blocks_of heap.graph.objects) n (outside heap.graph.statics) (element_type program o.kind) next) (sym here.capacity)
            (subst (λ t. Fits program (blocks_of heap.graph.objects) e.capacity (outside heap.graph.statics) t next) (sym s.of_kind) s.is.fits);
        has = subst (λ t. HasLeaves program layouts.structures 0 t next s.is.leaves) (sym s.of_kind) s.is.has;
        stand = subst (λ a. Stand itself s.is.leaves (bytes_at new a size)) lies s.is.stand;
      }

  abbrev changed : Tree
  changed = with_part o.value (place ∷ []) next

  assigns : AssignsElement program heap.graph o (place ∷ rest) written.tree changed
  assigns = record {
    elements = is_object.fits.trees;
    row = is_object.fits.row;
    place = place;
    rest = rest;
    leads = refl;
    old_element = here.tree;
    there = at.0;
    new_element = next;
    assigns = subst (λ n. Assigns program (blocks_of heap.graph.objects) heap.graph.statics n (element_type program o.kind) here.tree rest written.tree next) (sym here.capacity) written.assigns;
    made = refl;
  }

  holds : IsHeapOf program layouts (record objects { space = new }) (record heap { graph = record heap.graph { objects = with_value heap.graph.objects o.id changed } })
  holds =
      let p = placed_of is.good.places o there.0 in
      replaced program layouts settled laid within objects heap is space o there.0 plain p.0 p.1 p.2 size takes place low new form sized put next value

  pub in_heap : IsWrittenInHeap program layouts heap (Of address) (place ∷ rest) written.tree (record objects { space = new })
  in_heap = record {
    graph = record heap.graph { objects = with_value heap.graph.objects address changed };
    writes = Writes.in_object found assigns;
    holds = subst (λ n. IsHeapOf program layouts (record objects { space = new }) (record heap { graph = record heap.graph { objects = with_value heap.graph.objects n changed } })) there.1 holds;
  }
