-- A good state stays good where a leaf is written.
use Rattle.std.proofs.Common.{◌≡◌, ℕ, Bool, true, false, cond, List, [], ◌∷◌, refl, ap, sym, subst, ◌∙◌, Some}
use Rattle.std.specs.Prelude.{◌≢◌, ◌==◌, Contains, option_map}
use Rattle.std.proofs.lemmas.Bool.{eqb-true}
use Rattle.std.proofs.lemmas.List.Elements.{All-contains}
use Rattle.gt_types.specs.declared.program.Program.{Program}
use Rattle.gt_types.specs.Settled.{Settled}
use Rattle.gt_layout.specs.declared.planes.Layouts.{Layouts}
use Rattle.gt_tree.specs.Trees.{Tree, with_part, with_part_of}
use Rattle.gt_tree.specs.Blocks.{Chars, element_type}
use Rattle.gt_tree.specs.Fits.{BlockFits}
use Rattle.gt_graph.specs.Objects.{Object, Graph, object_of, blocks_of}
use Rattle.gt_graph.specs.Places.{ArePlacesOf}
use Rattle.gt_graph.specs.Changes.{Owner, Of, valued, with_value, AssignsElement, Writes}
use Rattle.gt_graph.specs.Good.{IsObject, IsGraph}
use Rattle.gt_objects.proofs.Growing.{AreAmong, block_more, fields_more}
use Rattle.gt_objects.proofs.Items.{all_by, find_is, there_mapped}
use Rattle.gt_next.specs.States.{State, meaning, IsGoodState}
use Rattle.gt_next.specs.Next.{WritesAt}
use Rattle.gt_next.specs.Spots.{Spot}
use Rattle.gt_determined.proofs.Graphs.{graph-more, id-one}
use Rattle.gt_determined.proofs.Valued.{each-set, count-set, ends-any, each-refit, object-valued, distinct-valued, places-valued, valued-more}

-- ---- an object that is written

module _ (program : Program) (g : Graph) (good : IsGraph program g) (id : ℕ) (o : Object) (there : object_of g.objects id ≡ Some o) (plain : o.kind ≢ Chars) (path : List ℕ) (leaf value : Tree)
    (assigns : AssignsElement program g o path leaf value) where
  new-block : BlockFits program (blocks_of g.objects) g.statics o.kind o.count o.capacity o.value → BlockFits program (blocks_of g.objects) g.statics o.kind o.count o.capacity value
  new-block f = record {
    trees = with_part_of f.trees assigns.place [] assigns.new_element;
    row = assigns.made ∙ ap (λ v. with_part v (assigns.place ∷ []) assigns.new_element) f.row;
    as_many = count-set f.trees assigns.place assigns.new_element ∙ f.as_many;
    each = each-set (element_type program o.kind) f.trees assigns.place assigns.new_element f.each assigns.assigns.fits;
    ends = ends-any o.kind (with_part_of f.trees assigns.place [] assigns.new_element) plain;
  }

  abbrev after : Graph
  after = record g { objects = with_value g.objects id value }

  more : AreAmong (blocks_of g.objects) (blocks_of (with_value g.objects id value))
  more = valued-more id value g.objects o there plain

  object-good : (x : Object) → Contains g.objects x → IsObject program after (valued id value x)
  object-good x c = go (x.id == id) refl (All-contains (IsObject program g) g.objects x good.objects c)
    where
      go : (b : Bool) → (x.id == id) ≡ b → IsObject program g x → IsObject program after (cond b (record x { value = value }) x)
      go false e is = record {
        may_hold = is.may_hold;
        single_tail = is.single_tail;
        no_room = is.no_room;
        fits = block_more (blocks_of g.objects) (blocks_of (with_value g.objects id value)) more program g.statics x.kind x.count x.capacity x.value is.fits;
      }
      go true e is =
          let found = find_is (λ y. y.id == id) g.objects o there in
          let same : o ≡ x = id-one g.objects good.distinct o x found.0 c (eqb-true o.id id found.1 ∙ sym (eqb-true x.id id e)) in
          let mine = All-contains (IsObject program g) g.objects o good.objects found.0 in
          let fits = subst (λ y. BlockFits program (blocks_of g.objects) g.statics y.kind y.count y.capacity value) same (new-block mine.fits) in
          record {
            may_hold = is.may_hold;
            single_tail = is.single_tail;
            no_room = is.no_room;
            fits = block_more (blocks_of g.objects) (blocks_of (with_value g.objects id value)) more program g.statics x.kind x.count x.capacity value fits;
          }

  pub object-written : IsGraph program (record g { objects = with_value g.objects id value })
  object-written = graph-more program g (with_value g.objects id value) g.statics good more (distinct-valued id value g.objects good.distinct)
      (all_by (IsObject program after) (with_value g.objects id value) (λ z c. let found = there_mapped (valued id value) g.objects z c in subst (IsObject program after) found.2 (object-good found.0 found.1)))
      (fields_more (blocks_of g.objects) (blocks_of (with_value g.objects id value)) more good.statics)

-- ---- a state

module _ (program : Program) (layouts : Layouts) (settled : Settled program) (s : State) (good : IsGoodState program layouts s) where
  -- another graph
  with-graph : (g : Graph) → IsGraph program g → ArePlacesOf program layouts g.objects s.heap.places → ((name : List ℕ) (id : ℕ) → meaning s.variables name ≡ Some id → (o : Object) × (object_of g.objects id ≡ Some o))
      → IsGoodState program layouts (record s { heap = record s.heap { graph = g } })
  with-graph g graph places variables = record {
    heap = record { graph = graph; places = places };
    variables = variables;
    few_variables = good.few_variables;
    pages = good.pages;
    min_expand = good.min_expand;
    min_heapsize = good.min_heapsize;
    last = good.last;
  }

  written-good : (owner : Owner) (path : List ℕ) (leaf : Tree) (g : Graph) → ((id : ℕ) (o : Object) → owner ≡ Of id → object_of s.heap.graph.objects id ≡ Some o → o.kind ≢ Chars) → Writes program s.heap.graph owner path leaf g
      → IsGoodState program layouts (record s { heap = record s.heap { graph = g } })
  written-good owner path leaf g plain (Writes.in_statics {statics} h) =
      let old = s.heap.graph in
      let new : Graph = record old { statics = statics } in
      with-graph new
      (graph-more program old old.objects statics good.heap.graph (λ id b e. e) good.heap.graph.distinct
      (all_by (IsObject program new) old.objects (λ x c.
      let is = All-contains (IsObject program old) old.objects x good.heap.graph.objects c in
      let f = is.fits in
      record {
        may_hold = is.may_hold;
        single_tail = is.single_tail;
        no_room = is.no_room;
        fits = record { trees = f.trees; row = f.row; as_many = f.as_many; each = each-refit program settled (blocks_of old.objects) x.capacity x.kind old.statics statics f.trees f.each; ends = f.ends };
      }))
      h.fits)
      good.heap.places good.variables
  written-good owner path leaf g plain (Writes.in_object {id} {o} {value} e h) =
      let old = s.heap.graph in
      let new : Graph = record old { objects = with_value old.objects id value } in
      with-graph new (object-written program old good.heap.graph id o e (plain id o refl e) path leaf value h) (places-valued id value program layouts old.objects s.heap.places good.heap.places)
      (λ name j is. let found = good.variables name j is in (valued id value found.0, object-valued id value old.objects j ∙ ap (option_map (valued id value)) found.1))

  pub writes-good : (at : Spot) (leaf : Tree) (t : State) → ((id : ℕ) (o : Object) → at.owner ≡ Of id → object_of s.heap.graph.objects id ≡ Some o → o.kind ≢ Chars) → WritesAt program s at leaf t → IsGoodState program layouts t
  writes-good at leaf t plain (g, writes, e) = subst (λ x. IsGoodState program layouts x) (sym e) (written-good at.owner at.path leaf g plain writes)
