-- The heap in which deletable roots are null, where their words are zero.
use Rattle.std.proofs.Common.{◌≡◌, ℕ, List, length, refl, ap, sym, subst, ◌*◌, ◌∙◌, inl, arith}
use Rattle.std.specs.Prelude.{Contains, IsTrue}
use Rattle.std.proofs.lemmas.List.Elements.{All-contains, All-weaker}
use Rattle.gt_types.specs.declared.program.Root.{Root}
use Rattle.gt_types.specs.declared.program.Program.{Program}
use Rattle.gt_types.specs.Shapes.{innermost, is_pointer}
use Rattle.gt_types.specs.Settled.{Settled, IsRoot}
use Rattle.gt_layout.specs.declared.planes.Layouts.{Layouts}
use Rattle.gt_layout.specs.Planes.{IsLaidOut}
use Rattle.gt_layout.specs.Excess.{IsWithin}
use Rattle.gt_space.specs.Range.{Range, IsInside, IsSpace, bytes_at, statics_start, with_bytes}
use Rattle.gt_space.proofs.RangeLemmas.{bytes_at-with_bytes_apart}
use Rattle.gt_tree.specs.Trees.{Trees, all_without_pointers}
use Rattle.gt_tree.specs.Blocks.{Blocks}
use Rattle.gt_tree.specs.Scopes.{outside}
use Rattle.gt_tree.specs.Fits.{StaticsFit}
use Rattle.gt_tree.specs.FixedLaws.{AreStaticsOf}
use Rattle.gt_tree.specs.LeafLaws.{AreBytesOf, LieInOrder}
use Rattle.gt_tree.proofs.Bytes.{one-form}
use Rattle.gt_tree.proofs.OneList.{record-one_list}
use Rattle.gt_tree.proofs.Placed.{record-placed}
use Rattle.gt_value.specs.Bytes.{itself, AreStaticsStored, StandForStatics}
use Rattle.gt_store.proofs.Stored.{stored-statics-stand}
use Rattle.gt_edges.specs.Deletable.{deletable_words}
use Rattle.gt_graph.specs.Objects.{Object, blocks_of}
use Rattle.gt_graph.specs.Places.{Placed, address_in}
use Rattle.gt_graph.specs.Good.{Heap, IsGraph, IsObject}
use Rattle.gt_graph.specs.Kept.{without_deletable}
use Rattle.gt_graph.specs.Stands.{RecordStands}
use Rattle.gt_objects.specs.declared.objects.Objects.{Objects}
use Rattle.gt_objects.specs.Holding.{IsHeapOf}
use Rattle.gt_objects.proofs.Leaves.{same_fields, stand_same}
use Rattle.gt_objects.proofs.Naming.{address_named}
use Rattle.gt_objects.proofs.Spaces.{record_below, record_inside, sized_after}
use Rattle.gt_objects.proofs.Standing.{block_stands}
use Rattle.gt_elements.proofs.Found.{block_room, in_space, roots}
use Rattle.gt_collect.specs.Collecting.{cleared_heap}
use Rattle.gt_collect.proofs.Bare.{bare_roots, block_alike, outside_alike}
use Rattle.gt_collect.proofs.Cleared.{cleared_fit}
use Rattle.gt_collect.proofs.Nulls.{words_inside, zeroed_stored}
use Rattle.gt_collect.proofs.Words.{RootsNulled, roots_nulled}
use Rattle.gt_collect.proofs.Zeros.{AreInside, zeroed}

module _ (program : Program) (layouts : Layouts) (settled : Settled program) (laid : IsLaidOut program layouts) (within : IsWithin program layouts) (objects : Objects) (heap : Heap)
    (is : IsHeapOf program layouts objects heap) (space : IsSpace objects.space) where
  abbrev blocks : Blocks
  blocks = blocks_of heap.graph.objects

  abbrev old_values : Trees
  old_values = heap.graph.statics

  abbrev values : Trees
  values = without_deletable program.roots old_values

  same_bare : all_without_pointers old_values ≡ all_without_pointers values
  same_bare = sym (bare_roots program.roots old_values)

  values_fit : StaticsFit program blocks values
  values_fit = cleared_fit (outside values) (outside_alike old_values values same_bare) program.roots old_values is.good.graph.statics

  -- the old bytes stand for the old values
  stand_for : StandForStatics program layouts objects.space old_values
  stand_for =
      let stand = (roots program layouts settled laid objects heap is space within).stand in
      record { blocks = blocks; addresses = stand.addresses; are = stand.are }

  record_room : IsInside objects.space objects.space.start layouts.statics.size
  record_room = record_inside objects.space heap.places.pages layouts.statics.size is.stands.sized within.statics

  -- ---- zeros at the words of deletable roots

  abbrev pub words : List ℕ
  words = deletable_words layouts.structures (statics_start layouts.statics.size) program.roots layouts.statics.fields

  pointers : (r : Root) → Contains program.roots r → IsTrue r.deletable → IsTrue (is_pointer (innermost r.ty))
  pointers r there = (All-contains (IsRoot program) program.roots r settled.roots there).deletable

  nulled : RootsNulled program layouts.structures (statics_start layouts.statics.size) blocks program.roots layouts.statics.fields old_values stand_for.are.leaves
  nulled =
      roots_nulled program layouts.structures (statics_start layouts.statics.size) blocks program.roots pointers layouts.statics.fields 0 laid.statics.places (outside old_values) old_values
      stand_for.are.leaves is.good.graph.statics stand_for.are.have

  placed : LieInOrder 0 (8 * layouts.statics.size) nulled.0
  placed = record-placed program layouts settled laid blocks values nulled.0 values_fit nulled.1

  pub inside_words : AreInside objects.space words
  inside_words =
      words_inside (statics_start layouts.statics.size) layouts.statics.size words stand_for.are.leaves nulled.0 nulled.2 placed objects.space is.stands.sized.start record_room

  -- with zeros there, the bytes of the static record stand for the values without the pointers of deletable roots
  pub zeros_stored : AreStaticsStored program layouts values objects.space (zeroed objects.space words)
  zeros_stored leaves form have are =
      let list = record-one_list program layouts settled laid blocks values values_fit in
      let same : leaves ≡ nulled.0 = list.2 leaves have ∙ sym (list.2 nulled.0 nulled.1) in
      zeroed_stored (statics_start layouts.statics.size) layouts.statics.size words stand_for.are.leaves nulled.0 nulled.2 placed form
      (subst (λ ls. AreBytesOf itself ls layouts.statics.size form) same are) objects.space is.stands.sized.start space record_room stand_for.are.stand

  -- ---- the heap

  module _ (new : Range) (stored : AreStaticsStored program layouts values objects.space new) where
    form : (bytes : List ℕ) × AreBytesOf itself (record-one_list program layouts settled laid blocks values values_fit).0 layouts.statics.size bytes
    form = let made = one-form itself (record-one_list program layouts settled laid blocks values values_fit).0 layouts.statics.size in (made.0, made.1)

    put : new ≡ with_bytes objects.space objects.space.start form.0
    put = let list = record-one_list program layouts settled laid blocks values values_fit in stored list.0 form.0 list.1 form.1

    inside : IsInside objects.space objects.space.start (length form.0)
    inside = subst (IsInside objects.space objects.space.start) (sym form.1.long) record_room

    record_after : RecordStands program layouts (address_in heap.places.placed) new values
    record_after =
        let are : AreStaticsOf program layouts blocks itself (bytes_at new new.start layouts.statics.size) values =
        stored-statics-stand program layouts settled laid blocks objects.space new values record_room values_fit stored in
        record {
          leaves = are.leaves;
          has = are.have;
          stand = stand_same itself (address_in heap.places.placed) are.leaves (bytes_at new new.start layouts.statics.size)
              (same_fields itself (address_in heap.places.placed) program layouts.structures blocks 0 (λ id b e. sym (address_named is.good.places id b e)) are.have (outside values) values_fit) are.stand;
        }

    other_bytes : (p : Placed) → Contains heap.places.placed p → bytes_at new p.block.address p.block.size ≡ bytes_at objects.space p.block.address p.block.size
    other_bytes p there =
        let below = record_below objects.space heap.places.pages layouts.statics.size is.stands.sized within.statics p.block.address (in_space program layouts settled laid objects heap is space p there).0 in
        let long = form.1.long in
        ap (λ s. bytes_at s p.block.address p.block.size) put
        ∙ bytes_at-with_bytes_apart objects.space objects.space.start form.0 p.block.address p.block.size inside (block_room program layouts settled laid objects heap is space p there)
        (inl (omega (arith, below, long)))

    object_after : (o : Object) → IsObject program heap.graph o → IsObject program (record heap.graph { statics = values }) o
    object_after o is = record {
      may_hold = is.may_hold;
      single_tail = is.single_tail;
      no_room = is.no_room;
      fits = block_alike program blocks old_values values o.kind o.count o.capacity o.value same_bare is.fits;
    }

    graph : IsGraph program (record heap.graph { statics = values })
    graph = record {
      distinct = is.good.graph.distinct;
      objects = All-weaker (IsObject program heap.graph) (IsObject program (record heap.graph { statics = values })) object_after heap.graph.objects is.good.graph.objects;
      statics = values_fit;
      pairs = is.good.graph.pairs;
      few_pairs = is.good.graph.few_pairs;
    }

    pub rooted : IsHeapOf program layouts (record objects { space = new }) (cleared_heap program heap)
    rooted = record {
      good = record { graph = graph; places = is.good.places };
      stands = record {
        sized = sized_after objects.space new heap.places.pages layouts.statics.size objects.space.start form.0 is.stands.sized inside put;
        statics = record_after;
        objects = λ o p here there same.
            let fit = (All-contains (IsObject program heap.graph) heap.graph.objects o is.good.graph.objects here).fits in
            block_stands program layouts blocks old_values (address_in heap.places.placed) (address_in heap.places.placed) (λ id b e. refl) objects.space new o p.block fit
            (other_bytes p there) (is.stands.objects o p here there same);
      };
      ledger = is.ledger;
      shelves = is.shelves;
      told = is.told;
    }
