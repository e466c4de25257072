-- The heap in which the static record has other values.
use Rattle.std.proofs.Common.{◌≡◌, ℕ, List, length, refl, ap, sym, subst, ◌∙◌, arith, inl}
use Rattle.std.specs.Prelude.{Contains}
use Rattle.std.proofs.lemmas.List.Elements.{All-contains, All-weaker}
use Rattle.gt_types.specs.declared.program.Program.{Program}
use Rattle.gt_types.specs.Settled.{Settled}
use Rattle.gt_layout.specs.declared.planes.Layouts.{Layouts}
use Rattle.gt_layout.specs.Planes.{IsLaidOut}
use Rattle.gt_layout.specs.Excess.{IsWithin}
use Rattle.gt_space.specs.Range.{Range, IsInside, IsSpace, bytes_at, with_bytes}
use Rattle.gt_space.proofs.RangeLemmas.{bytes_at-with_bytes_apart, length-bytes_at}
use Rattle.gt_tree.specs.Trees.{Tree, Trees, End, And}
use Rattle.gt_tree.specs.Blocks.{Kind, Blocks, element_type}
use Rattle.gt_tree.specs.Scopes.{outside}
use Rattle.gt_tree.specs.Fits.{EachFits}
use Rattle.gt_tree.specs.FixedLaws.{AreStaticsOf}
use Rattle.gt_tree.specs.Reshapes.{AssignsStatics}
use Rattle.gt_tree.proofs.Bytes.{one-form}
use Rattle.gt_tree.proofs.Fitting.{fits-one}
use Rattle.gt_tree.proofs.OneList.{record-one_list}
use Rattle.gt_value.specs.Bytes.{itself, AreStaticsStored}
use Rattle.gt_value.specs.declared.places.LeafContent.{LeafContent}
use Rattle.gt_value.proofs.Refit.{refit-block}
use Rattle.gt_store.proofs.Stored.{stored-statics-stand}
use Rattle.gt_leaf.specs.Writing.{IsStaticWrittenInPlace}
use Rattle.gt_graph.specs.Objects.{Object, Graph, blocks_of}
use Rattle.gt_graph.specs.Places.{Placed, address_in}
use Rattle.gt_graph.specs.Changes.{Statics, Writes}
use Rattle.gt_graph.specs.Good.{Heap, IsGraph, IsObject}
use Rattle.gt_graph.specs.Stands.{BlockStands, RecordStands}
use Rattle.gt_objects.specs.declared.objects.Objects.{Objects}
use Rattle.gt_objects.specs.Holding.{IsHeapOf}
use Rattle.gt_objects.proofs.Leaves.{same_fields, stand_same}
use Rattle.gt_objects.proofs.Naming.{address_named}
use Rattle.gt_objects.proofs.Spaces.{record_below, record_inside, sized_after}
use Rattle.gt_objects.proofs.Standing.{block_stands}
use Rattle.gt_elements.specs.InHeap.{IsWrittenInHeap}
use Rattle.gt_elements.proofs.Found.{block_room, in_space}

-- elements of blocks fit whatever the roots are
each_refit : (program : Program) → Settled program → (blocks : Blocks) (capacity : ℕ) (kind : Kind) (a b : Trees) (trees : Trees) → EachFits program blocks capacity (outside a) (element_type program kind) trees
    → EachFits program blocks capacity (outside b) (element_type program kind) trees
each_refit program settled blocks capacity kind a b End each = EachFits.no_more
each_refit program settled blocks capacity kind a b (And tree trees) each =
    let parts = fits-one (element_type program kind) tree trees each in
    EachFits.one_more (refit-block program settled blocks capacity kind a b tree parts.0) (each_refit program settled blocks capacity kind a b trees parts.1)

module _ (program : Program) (layouts : Layouts) (settled : Settled program) (laid : IsLaidOut program layouts) (within : IsWithin program layouts) (objects : Objects) (heap : Heap) (is : IsHeapOf program layouts objects heap) (space : IsSpace objects.space) where
  module _ (others : Trees) (new : Range) (form : List ℕ) (sized : length form ≡ layouts.statics.size) (put : new ≡ with_bytes objects.space objects.space.start form) (are : AreStaticsOf program layouts (blocks_of heap.graph.objects) itself (bytes_at new new.start layouts.statics.size) others) where
    abbrev blocks : Blocks
    blocks = blocks_of heap.graph.objects

    abbrev after : Graph
    after = record heap.graph { statics = others }

    abbrev heap_after : Heap
    heap_after = record heap { graph = after }

    object_after : (o : Object) → IsObject program heap.graph o → IsObject program after o
    object_after o was =
        let fits = was.fits in
        record {
          may_hold = was.may_hold;
          single_tail = was.single_tail;
          no_room = was.no_room;
          fits = record { trees = fits.trees; row = fits.row; as_many = fits.as_many; each = each_refit program settled blocks o.capacity o.kind heap.graph.statics others fits.trees fits.each; ends = fits.ends };
        }

    graph_after : IsGraph program after
    graph_after =
        let was = is.good.graph in
        record {
          distinct = was.distinct;
          objects = All-weaker (IsObject program heap.graph) (IsObject program after) object_after heap.graph.objects was.objects;
          statics = are.fit;
          pairs = was.pairs;
          few_pairs = was.few_pairs;
        }

    put_room : IsInside objects.space objects.space.start (length form)
    put_room = subst (IsInside objects.space objects.space.start) (sym sized) (record_inside objects.space heap.places.pages layouts.statics.size is.stands.sized within.statics)

    -- the bytes of blocks are as before
    block_bytes : (p : Placed) → Contains heap.places.placed p → bytes_at new p.block.address p.block.size ≡ bytes_at objects.space p.block.address p.block.size
    block_bytes p there =
        let above = (in_space program layouts settled laid objects heap is space p there).0 in
        let below = record_below objects.space heap.places.pages layouts.statics.size is.stands.sized within.statics p.block.address above in
        ap (λ r. bytes_at r p.block.address p.block.size) put
        ∙ bytes_at-with_bytes_apart objects.space objects.space.start form p.block.address p.block.size put_room (block_room program layouts settled laid objects heap is space p there) (inl (omega (arith, below, sized)))

    record_stands : RecordStands program layouts (address_in heap.places.placed) new others
    record_stands = record {
      leaves = are.leaves;
      has = are.have;
      stand = stand_same itself (address_in heap.places.placed) are.leaves (bytes_at new new.start layouts.statics.size)
          (same_fields itself (address_in heap.places.placed) program layouts.structures blocks 0 (λ id b e. sym (address_named is.good.places id b e)) are.have (outside others) are.fit) are.stand;
    }

    each_stands : (o : Object) (p : Placed) → Contains heap.graph.objects o → Contains heap.places.placed p → p.id ≡ o.id → BlockStands program layouts (address_in heap.places.placed) new o p.block
    each_stands o p in_o in_p same =
        block_stands program layouts blocks heap.graph.statics (address_in heap.places.placed) (address_in heap.places.placed) (λ id b e. refl) objects.space new o p.block
        (All-contains (IsObject program heap.graph) heap.graph.objects o is.good.graph.objects in_o).fits (block_bytes p in_p) (is.stands.objects o p in_o in_p same)

    -- the bytes, pages and directory are those of the heap with the new values
    pub statics_replaced : IsHeapOf program layouts (record objects { space = new }) heap_after
    statics_replaced = record {
      good = record { graph = graph_after; places = is.good.places };
      stands = record {
        sized = sized_after objects.space new heap.places.pages layouts.statics.size objects.space.start form is.stands.sized put_room put;
        statics = record_stands;
        objects = each_stands;
      };
      ledger = is.ledger;
      shelves = is.shelves;
      told = is.told;
    }

  -- ---- writes

  room : IsInside objects.space objects.space.start layouts.statics.size
  room = record_inside objects.space heap.places.pages layouts.statics.size is.stands.sized within.statics

  -- a leaf of the static record that was written in place is written in the heap
  pub root_in_heap : (path : List ℕ) (leaf : LeafContent) (new : Range) → (written : IsStaticWrittenInPlace program layouts (blocks_of heap.graph.objects) heap.graph.statics path leaf objects.space new)
      → IsWrittenInHeap program layouts heap Statics path written.tree (record objects { space = new })
  root_in_heap path leaf new written =
      let start = written.written.addresses.start in
      let long = written.written.addresses.len in
      let here = room in
      let inside : IsInside new objects.space.start layouts.statics.size = record { from_start = omega (arith, start, here.from_start); to_end = omega (arith, start, long, here.to_end) } in
      record {
        graph = record heap.graph { statics = written.others };
        writes = Writes.in_statics written.assigns;
        holds = statics_replaced written.others new (bytes_at new objects.space.start layouts.statics.size) (length-bytes_at new objects.space.start layouts.statics.size inside) written.same written.stand.are;
      }

  -- so is one with which the static record was stored anew
  pub statics_in_heap : (path : List ℕ) (leaf : Tree) (news : Trees) (new : Range) → AssignsStatics program (blocks_of heap.graph.objects) heap.graph.statics path leaf news → AreStaticsStored program layouts news objects.space new
      → IsWrittenInHeap program layouts heap Statics path leaf (record objects { space = new })
  statics_in_heap path leaf news new assigns stored =
      let list = record-one_list program layouts settled laid (blocks_of heap.graph.objects) news assigns.fits in
      let form = one-form itself list.0 layouts.statics.size in
      record {
        graph = record heap.graph { statics = news };
        writes = Writes.in_statics assigns;
        holds = statics_replaced news new form.0 form.1.long (stored list.0 form.0 list.1 form.1)
            (stored-statics-stand program layouts settled laid (blocks_of heap.graph.objects) objects.space new news room assigns.fits stored);
      }
