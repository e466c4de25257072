-- An edge of an object that does not lie at its chain pointer leads aside: where it names the same object as the chain pointer, this is named twice.
use Rattle.std.proofs.Common.{◌≡◌, ◌∙◌, ℕ, ◌+◌, ◌*◌, ◌≤◌, List, ◌∷◌, Option, Some, None, find, refl, sym, ap, subst, arith}
use Rattle.std.specs.Prelude.{◌==◌, ◌≢◌, Contains, count_by, slice_get}
use Rattle.std.specs.List.{range_with_len}
use Rattle.std.proofs.lemmas.List.{append-nil}
use Rattle.std.proofs.lemmas.Option.{none-some}
use Rattle.gt_types.specs.declared.expressions.Expr.{Expr}
use Rattle.gt_types.specs.declared.types.TypeId.{TypeId}
use Rattle.gt_types.specs.declared.types.Ty.TheVariants as ty
use Rattle.gt_types.specs.declared.program.Chain.{Chain}
use Rattle.gt_types.specs.declared.program.Structure.{Structure}
use Rattle.gt_types.specs.declared.program.Program.{Program}
use Rattle.gt_types.specs.Settled.{Settled}
use Rattle.gt_types.specs.Contains.{HasStructure}
use Rattle.gt_layout.specs.declared.planes.Layouts.{Layouts}
use Rattle.gt_layout.specs.Planes.{IsLaidOut}
use Rattle.gt_space.specs.Range.{IsSpace}
use Rattle.gt_tree.specs.Trees.{Tree, To, Row, End, And, count, tree_at, edges}
use Rattle.gt_tree.specs.Blocks.{Kind, Nodes, Chars, Raw, Blocks, desc_of, element_type}
use Rattle.gt_tree.specs.Scopes.{◌then◌, outside}
use Rattle.gt_tree.specs.Fits.{Fits}
use Rattle.gt_tree.specs.Leaves.{Leaf, leaf, Pointer, HasLeaves, target_of, targets}
use Rattle.gt_tree.proofs.Edges.{edges-targets}
use Rattle.gt_tree.proofs.Structures.{get-as_long}
use Rattle.gt_graph.specs.Objects.{Object, elements_in}
use Rattle.gt_graph.specs.Good.{Heap}
use Rattle.gt_graph.specs.Rounds.{LeadsAside, chain_part, chain_target_of, leads_on, named_in, only_element}
use Rattle.gt_objects.specs.declared.objects.Objects.{Objects}
use Rattle.gt_objects.specs.Holding.{IsHeapOf}
use Rattle.gt_walk.specs.declared.rows.WalkRow.{WalkRow}
use Rattle.gt_walk.specs.declared.rows.WalkRow.TheOpen.{WalkRow-F}
use Rattle.gt_walk.specs.declared.rows.WalkRow.TheVariants as row
use Rattle.gt_walk.specs.declared.rows.WalkRow.TheVariants.{outs-Note}
use Rattle.gt_walk.specs.declared.tables.Tables.{Tables}
use Rattle.gt_walk.specs.Rows.{Edge, rows_of}
use Rattle.gt_mark.specs.Reached.{Walked, block_edges}
use Rattle.gt_mark.specs.Rounds.{IsChainEdge, chain_in, chain_in_note}
use Rattle.gt_mark.proofs.Remarked.{contains_map}
use Rattle.gt_edges.specs.Numbers.{walk_of, walked}
use Rattle.gt_edges.specs.Edges.{edges_at}
use Rattle.gt_edges.specs.Notes.{chain_offset, offset_to}
use Rattle.gt_edges.specs.Tables.{AreTables}
use Rattle.gt_tracing.proofs.ChainLeaf.{PathLeaf, chain_leaf, same_offset, same_part}
use Rattle.gt_tracing.proofs.EdgeLists.{only_first, twice}
use Rattle.gt_tracing.proofs.Elements.{ElementEdges, as_many, blocks, edges_all, element_gives, gives_at, object_targets, some_same, step, walked_as, walks}
use Rattle.gt_tracing.proofs.Leaves.{from_leaf}
use Rattle.gt_tracing.proofs.ChainSteps.{then_some}

-- ---- notes and values of one element

note_chain : (rows all : List WalkRow) (size : ℕ) (chain : Option ℕ) → all ≡ row.Note size chain ∷ rows → chain_in_note all ≡ chain
note_chain rows all size chain is = ap chain_in_note is ∙ ap (λ (x : WalkRow-F WalkRow _). chain_in x) (outs-Note size chain)

only_is : (value element : Tree) → only_element value ≡ Some element → value ≡ Row (And element End)
only_is (Row (And tree End)) element e = ap (λ t. Row (And t End)) (some_same tree element e)
only_is value element e = absurd (none-some element e)

named_is : (part : Tree) (id : ℕ) → named_in part ≡ Some id → part ≡ To id
named_is (To to) id e = ap To (some_same to id e)
named_is part id e = absurd (none-some id e)

-- where the chain pointer of an object leads
record ChainLeads (program : Program) (node : TypeId) (value : Tree) (id : ℕ) : Type 0 where
  s : Structure
  has : HasStructure program node s
  chain : Chain
  first : find (λ c. leads_on c.kind) s.chains ≡ Some chain
  element : Tree
  only : value ≡ Row (And element End)
  leads : chain_part program chain.path (ty.Node node None) element ≡ Some (To id)

chain_leads : (program : Program) (node : TypeId) (value : Tree) (id : ℕ) → chain_target_of program (Nodes node) value ≡ Some id → ChainLeads program node value id
chain_leads program node value id e =
    let a = then_some (slice_get program.structures node.0) _ id e in
    let b = then_some (find (λ c. leads_on c.kind) a.0.chains) _ id a.2 in
    let c = then_some (only_element value) _ id b.2 in
    let d = then_some (chain_part program b.0.path (ty.Node node None) c.0) named_in id c.2 in
    record {
      s = a.0;
      has = a.1;
      chain = b.0;
      first = b.1;
      element = c.0;
      only = only_is value c.0 c.1;
      leads = d.1 ∙ ap Some (named_is d.0 id d.2);
    }

module _ (program : Program) (layouts : Layouts) (tables : Tables) (settled : Settled program) (laid : IsLaidOut program layouts) (are : AreTables program layouts tables) (objects : Objects) (heap : Heap)
    (is : IsHeapOf program layouts objects heap) (space : IsSpace objects.space) (o : Object) (there : Contains heap.graph.objects o) where
  abbrev known : Blocks
  known = blocks program layouts tables settled laid are objects heap is space

  abbrev its_walks : ℕ → Walked
  its_walks = walks program layouts tables settled laid are objects heap is space

  abbrev bytes : ℕ
  bytes = step program layouts tables settled laid are objects heap is space o there

  module _ (node : TypeId) (kind : o.kind ≡ Nodes node) (id : ℕ) (chain : ChainLeads program node o.value id) where
    one : o.count ≡ 1
    one = sym (as_many program layouts tables settled laid are objects heap is space o there) ∙ ap (λ v. count (elements_in v)) chain.only

    no_chars : o.kind ≢ Chars
    no_chars c = let both = sym kind ∙ c in cc

    no_raw : o.kind ≢ Raw
    no_raw c = let both = sym kind ∙ c in cc

    here : ElementEdges program layouts tables objects heap o 0 (o.id + 0 * bytes)
    here = element_gives program layouts tables settled laid are objects heap is space o there no_chars no_raw 0 (let n = one in omega (arith, n))

    same_tree : here.tree ≡ chain.element
    same_tree = some_same here.tree chain.element (sym here.there ∙ ap (λ v. tree_at (elements_in v) 0) chain.only)

    abbrev desc : Option Expr
    desc = desc_of (slice_get program.structures node.0)

    fits : Fits program known o.capacity (outside heap.graph.statics) (ty.Node node desc) here.tree
    fits = subst (λ k. Fits program known o.capacity (outside heap.graph.statics) (element_type program k) here.tree) kind here.fits

    has : HasLeaves program layouts.structures 0 (ty.Node node desc) here.tree here.leaves
    has = subst (λ k. HasLeaves program layouts.structures 0 (element_type program k) here.tree here.leaves) kind here.has

    leads : chain_part program chain.chain.path (ty.Node node desc) here.tree ≡ Some (To id)
    leads = ap (chain_part program chain.chain.path (ty.Node node desc)) same_tree ∙ same_part program chain.chain.path node desc None chain.element ∙ chain.leads

    pointer : PathLeaf program layouts.structures chain.chain.path (ty.Node node desc) 0 id here.leaves
    pointer = chain_leaf program layouts.structures laid.structures known o.capacity chain.chain.path id (ty.Node node desc) here.tree 0 here.leaves (outside heap.graph.statics) has fits leads

    -- the note tells where it lies
    told : chain_in_note (rows_of tables (its_walks o.id).walk) ≡ Some pointer.offset
    told =
        let plane = get-as_long layouts.structures program.structures node.0 chain.s laid.structures.all chain.has in
        let note = are.blocks.structures node chain.s plane.0 chain.has plane.1 in
        let offset : chain_offset program layouts.structures node chain.s ≡ Some pointer.offset =
        ap (λ x. x then λ (c : Chain). offset_to program layouts.structures (ty.Node node None) c.path) chain.first
        ∙ same_offset program layouts.structures chain.chain.path node None desc
        ∙ pointer.leads in
        ap (λ (w : Walked). chain_in_note (rows_of tables w.walk)) (walked_as program layouts tables settled laid are objects heap is space o there)
        ∙ ap (λ k. chain_in_note (rows_of tables (walk_of program k))) kind
        ∙ note_chain note.0 (rows_of tables node.0) plane.0.size (chain_offset program layouts.structures node chain.s) note.1
        ∙ offset

    one_walked : (its_walks o.id).count ≡ 1
    one_walked =
        ap (λ (w : Walked). w.count) (walked_as program layouts tables settled laid are objects heap is space o there) ∙ ap (λ k. walked k o.count) kind ∙ one

    edges_here : block_edges tables objects.space its_walks o.id ≡ edges_at program known (o.id + 0 * bytes) here.leaves
    edges_here =
        edges_all program layouts tables settled laid are objects heap is space o there no_chars no_raw (ap (λ k. walked k o.count) kind)
        ∙ ap (λ n. Rattle.std.specs.List.flat_map (gives_at program layouts tables settled laid are objects heap is space o there) (range_with_len 0 n)) one
        ∙ only_first (gives_at program layouts tables settled laid are objects heap is space o there)
        ∙ here.gives

    edges_one : targets here.leaves ≡ edges o.value
    edges_one =
        sym (edges-targets program layouts known o.capacity (outside heap.graph.statics) (ty.Node node desc) here.tree 0 here.leaves fits has)
        ∙ ap edges same_tree
        ∙ sym (append-nil (edges chain.element))
        ∙ sym (ap edges chain.only)

    -- an edge elsewhere that names the same object is a second one
    named_twice : (e : Edge) → Contains (block_edges tables objects.space its_walks o.id) e → ¬ IsChainEdge tables its_walks o.id e → e.target ≡ id → 2 ≤ count_by (λ k. k == id) (edges o.value)
    named_twice e among aside same =
        let from = from_leaf program known (o.id + 0 * bytes) here.leaves e (subst (λ xs. Contains xs e) edges_here among) in
        let l = from.0 in
        let place = from.3 in
        let its = leaf (0 + 8 * pointer.offset) 64 (Pointer (Some id)) in
        let differ : l ≢ its = λ equal.
        let at : l.at ≡ 0 + 8 * pointer.offset = ap (λ (x : Leaf). x.at) equal in
        aside (pointer.offset, one_walked, told, omega (arith, place, at)) in
        subst (λ xs. 2 ≤ count_by (λ k. k == id) xs) edges_one (twice target_of id here.leaves l its from.1 pointer.there differ (from.2 ∙ ap Some same) refl)

  by_kind : (kind : Kind) → o.kind ≡ kind → (e : Edge) → Contains (block_edges tables objects.space its_walks o.id) e → ¬ IsChainEdge tables its_walks o.id e → chain_target_of program kind o.value ≡ Some e.target
      → 2 ≤ count_by (λ k. k == e.target) (edges o.value)
  by_kind (Nodes node) kind e among aside target = named_twice node kind e.target (chain_leads program node o.value e.target target) e among aside refl
  by_kind kind is e among aside target = absurd (none-some e.target target)

  pub leads_aside : (e : Edge) → Contains (block_edges tables objects.space its_walks o.id) e → ¬ IsChainEdge tables its_walks o.id e → LeadsAside program o e.target
  leads_aside e among aside = (
    subst (λ xs. Contains xs e.target) (object_targets program layouts tables settled laid are objects heap is space o there) (contains_map (λ (x : Edge). x.target) (block_edges tables objects.space its_walks o.id) e among),
    by_kind o.kind refl e among aside,
  )
