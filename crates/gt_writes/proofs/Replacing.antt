-- An element that was stored anew is written in the heap.
use Rattle.std.proofs.Common.{◌≡◌, ◌≢◌, ℕ, ◌+◌, ◌*◌, ◌<◌, List, ap, sym, subst, ◌∙◌, zero, suc, arith, Some, refl}
use Rattle.std.specs.Prelude.{[], ◌∷◌, Contains}
use Rattle.std.proofs.lemmas.List.Elements.{All-contains}
use Rattle.gt_types.specs.declared.program.Program.{Program}
use Rattle.gt_types.specs.Settled.{Settled}
use Rattle.gt_layout.specs.declared.planes.Layouts.{Layouts}
use Rattle.gt_layout.specs.Planes.{IsLaidOut}
use Rattle.gt_layout.specs.Excess.{IsWithin}
use Rattle.gt_space.specs.Range.{Range, IsSpace, bytes_at, with_bytes}
use Rattle.gt_tree.specs.Trees.{Tree, Trees, End, And, count, tree_at, part_at, part_of, with_part}
use Rattle.gt_tree.specs.Blocks.{Chars, element_type}
use Rattle.gt_tree.specs.Scopes.{outside}
use Rattle.gt_tree.specs.Leaves.{HasLeaves}
use Rattle.gt_tree.specs.LeafLaws.{AreBytesOf, OfExactlyOne}
use Rattle.gt_tree.specs.FixedLaws.{IsValueOf}
use Rattle.gt_tree.specs.Reshapes.{Assigns}
use Rattle.gt_tree.proofs.Bytes.{one-form}
use Rattle.gt_tree.proofs.OneList.{value-one_list}
use Rattle.gt_value.specs.Bytes.{itself, IsStored, Takes}
use Rattle.gt_store.proofs.Stored.{stored-stands}
use Rattle.gt_graph.specs.Objects.{Object, object_of, blocks_of}
use Rattle.gt_graph.specs.Changes.{Of, Writes, AssignsElement, with_value}
use Rattle.gt_graph.specs.Good.{Heap, IsObject}
use Rattle.gt_objects.specs.declared.objects.Objects.{Objects}
use Rattle.gt_objects.specs.Holding.{IsHeapOf}
use Rattle.gt_objects.proofs.Naming.{object_is, placed_of}
use Rattle.gt_elements.specs.declared.parts.Element.{Element}
use Rattle.gt_elements.specs.Elements.{IsElementOf}
use Rattle.gt_elements.specs.InHeap.{IsWrittenInHeap}
use Rattle.gt_elements.proofs.Replaced.{replaced}

-- the value at a place is the part there
pub place_part : (trees : Trees) (i : ℕ) → part_of trees i [] ≡ tree_at trees i
place_part End i = refl
place_part (And tree trees) zero = refl
place_part (And tree trees) (suc i) = place_part trees i

pub place_low : (trees : Trees) (i : ℕ) (tree : Tree) → tree_at trees i ≡ Some tree → i < count trees
place_low End i tree e = absurd (cc)
place_low (And first trees) zero tree e = omega arith
place_low (And first trees) (suc i) tree e = let low = place_low trees i tree e in omega (arith, low)

module _ (program : Program) (layouts : Layouts) (settled : Settled program) (laid : IsLaidOut program layouts) (within : IsWithin program layouts) (objects : Objects) (heap : Heap) (is : IsHeapOf program layouts objects heap) (space : IsSpace objects.space)
    (address : ℕ) (o : Object) (found : object_of heap.graph.objects address ≡ Some o) (plain : o.kind ≢ Chars) (place : ℕ) (e : Element) (here : IsElementOf program layouts heap objects.space o place e)
    (rest : List ℕ) (leaf next : Tree) (new : Range) (assigns : Assigns program (blocks_of heap.graph.objects) heap.graph.statics o.capacity (element_type program o.kind) here.tree rest leaf next)
    (stored : IsStored program layouts o.capacity (element_type program o.kind) next objects.space e.addr new) where
  abbrev size : ℕ
  size = here.stands.size

  there : Contains heap.graph.objects o × (o.id ≡ address)
  there = object_is heap.graph.objects address o found

  is_object : IsObject program heap.graph o
  is_object = All-contains (IsObject program heap.graph) heap.graph.objects o is.good.graph.objects there.0

  at : tree_at is_object.fits.trees place ≡ Some here.tree
  at = sym (place_part is_object.fits.trees place) ∙ sym (ap (λ v. part_at v (place ∷ [])) is_object.fits.row) ∙ here.there

  lies : e.addr ≡ o.id + size * place
  lies = here.lies size here.stands.takes

  takes : Takes program layouts o.capacity (element_type program o.kind) size
  takes = subst (λ n. Takes program layouts n (element_type program o.kind) size) (sym here.capacity) here.stands.takes

  low : place < o.count
  low = subst (λ n. place < n) is_object.fits.as_many (place_low is_object.fits.trees place here.tree at)

  list : OfExactlyOne (HasLeaves program layouts.structures 0 (element_type program o.kind) next)
  list = value-one_list program layouts settled laid (blocks_of heap.graph.objects) o.capacity (outside heap.graph.statics) (element_type program o.kind) next 0 assigns.fits

  form : OfExactlyOne (AreBytesOf itself list.0 size)
  form = one-form itself list.0 size

  put : new ≡ with_bytes objects.space (o.id + size * place) form.0
  put = subst (λ a. new ≡ with_bytes objects.space a form.0) lies (stored size list.0 form.0 takes list.1 form.1)

  value : IsValueOf program layouts (blocks_of heap.graph.objects) heap.graph.statics o.kind o.capacity itself 0 (bytes_at new (o.id + size * place) size) next
  value = subst (λ a. IsValueOf program layouts (blocks_of heap.graph.objects) heap.graph.statics o.kind o.capacity itself 0 (bytes_at new a size) next) lies
      (stored-stands program layouts settled laid (blocks_of heap.graph.objects) heap.graph.statics o.kind o.capacity size e.addr objects.space new next is_object.may_hold takes (here.inside size here.stands.takes) assigns.fits stored)

  abbrev changed : Tree
  changed = with_part o.value (place ∷ []) next

  element_assigns : AssignsElement program heap.graph o (place ∷ rest) leaf changed
  element_assigns = record {
    elements = is_object.fits.trees;
    row = is_object.fits.row;
    place = place;
    rest = rest;
    leads = refl;
    old_element = here.tree;
    there = at;
    new_element = next;
    assigns = assigns;
    made = refl;
  }

  holds : IsHeapOf program layouts (record objects { space = new }) (record heap { graph = record heap.graph { objects = with_value heap.graph.objects o.id changed } })
  holds =
      let p = placed_of is.good.places o there.0 in
      replaced program layouts settled laid within objects heap is space o there.0 plain p.0 p.1 p.2 size takes place low new form.0 form.1.long put next value

  pub stored_in_heap : IsWrittenInHeap program layouts heap (Of address) (place ∷ rest) leaf (record objects { space = new })
  stored_in_heap = record {
    graph = record heap.graph { objects = with_value heap.graph.objects address changed };
    writes = Writes.in_object found element_assigns;
    holds = subst (λ n. IsHeapOf program layouts (record objects { space = new }) (record heap { graph = record heap.graph { objects = with_value heap.graph.objects n changed } })) there.1 holds;
  }
