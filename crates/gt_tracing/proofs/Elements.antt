-- On the bytes of a heap the walk of an object gives the edges of its elements, and each names an object as this is walked.
use Rattle.std.proofs.Common.{◌≡◌, ◌∙◌, ℕ, zero, suc, ◌+◌, ◌*◌, ◌^◌, ◌<◌, ◌≤◌, List, [], ◌∷◌, map, flat_map, Some, refl, sym, ap, subst, arith, inl, inr}
use Rattle.std.specs.Prelude.{◌≢◌, Contains, All, AllPairs}
use Rattle.std.specs.List.{range_with_len}
use Rattle.std.specs.Option.{option_map_or}
use Rattle.std.proofs.lemmas.List.Elements.{All-contains, All-head, All-nil, All-tail}
use Rattle.gt_types.specs.declared.types.Scalar.{Scalar}
use Rattle.gt_types.specs.declared.types.Ty.TheVariants as ty
use Rattle.gt_types.specs.declared.program.Program.{Program}
use Rattle.gt_types.specs.Settled.{Settled}
use Rattle.gt_layout.specs.declared.planes.Layouts.{Layouts}
use Rattle.gt_layout.specs.Planes.{IsLaidOut}
use Rattle.gt_space.specs.Range.{IsInside, IsSpace, bytes_at}
use Rattle.gt_tree.specs.Trees.{Tree, Trees, End, And, count, tree_at, edges, all_edges}
use Rattle.gt_tree.specs.Blocks.{Kind, Nodes, Pointers, Strings, Chars, Raw, Block, Blocks, element_type}
use Rattle.gt_tree.specs.Scopes.{outside}
use Rattle.gt_tree.specs.Fits.{Fits, EachFits}
use Rattle.gt_tree.specs.FixedLaws.{IsValueOf}
use Rattle.gt_tree.specs.Leaves.{Leaf, HasLeaves}
use Rattle.gt_tree.proofs.Edges.{edges-targets}
use Rattle.gt_value.specs.Bytes.{itself, Takes}
use Rattle.gt_pages.specs.Ledger.{Ledger}
use Rattle.gt_pages.specs.Slots.{block_of}
use Rattle.gt_graph.specs.Objects.{Object, object_of, blocks_of, elements_in}
use Rattle.gt_graph.specs.Places.{Placed, address_in}
use Rattle.gt_graph.specs.Good.{Heap, IsObject}
use Rattle.gt_graph.specs.Stands.{BlockStands}
use Rattle.gt_objects.specs.declared.objects.Objects.{Objects}
use Rattle.gt_objects.specs.Holding.{IsHeapOf}
use Rattle.gt_objects.proofs.Items.{map_there, pairs_head, pairs_tail, there_cases, there_mapped, none_there}
use Rattle.gt_objects.proofs.Naming.{name_is, object_found, object_of_block}
use Rattle.gt_elements.proofs.Among.{its_room, its_value}
use Rattle.gt_elements.proofs.Found.{addresses, at, block, block_room, by_itself, each, each_fits, in_space, place_room}
use Rattle.gt_walk.specs.declared.tables.Tables.{Tables}
use Rattle.gt_walk.specs.Rows.{Edge, edges_of, frame_at, rows_of, size_in_note, walk_edges, MOST_NESTED}
use Rattle.gt_mark.specs.Reached.{Walked, Walks, NamesBlock, block_edges}
use Rattle.gt_edges.specs.Numbers.{walk_of, walked}
use Rattle.gt_edges.specs.Edges.{edge_to, edges_at}
use Rattle.gt_tracing.specs.Walked.{by_walk, walked_of, walks_in}
use Rattle.gt_edges.specs.Tables.{AreTables}
use Rattle.gt_tracing.proofs.EdgeLists.{targets_of, each_all, each_target}
use Rattle.gt_tracing.proofs.Leaves.{leaf_edges, leaf_targets}
use Rattle.gt_tracing.proofs.Named.{edge_named, no_edges}
use Rattle.gt_tracing.proofs.Sizes.{few_room, have_few, lies, size, stride, takes}

-- ---- lists

map_by : (xs : List Placed) → All (λ p. p.id ≡ p.block.address) xs → map (λ p. p.block.address) xs ≡ map (λ p. p.id) xs
map_by [] all = refl
map_by (x ∷ xs) all =
    ap (λ n. n ∷ map (λ p. p.block.address) xs) (sym (All-head (λ p. p.id ≡ p.block.address) x xs all)) ∙ ap (λ ns. x.id ∷ ns) (map_by xs (All-tail (λ p. p.id ≡ p.block.address) x xs all))

twice_mapped : {X Y Z : Type 0} (f : X → Y) (g : Y → Z) (xs : List X) → map g (map f xs) ≡ map (λ x. g (f x)) xs
twice_mapped f g [] = refl
twice_mapped f g (x ∷ xs) = ap (λ ys. g (f x) ∷ ys) (twice_mapped f g xs)

-- of two objects with one name there is one
one_object : (xs : List Object) (o q : Object) → AllPairs (λ a b. a.id ≢ b.id) xs → Contains xs o → Contains xs q → o.id ≡ q.id → o ≡ q
one_object [] o q pairs first second same = none_there o first
one_object (x ∷ xs) o q pairs first second same = elim (there_cases x xs o first) [
  | inl is_o ↦ elim (there_cases x xs q second) [
    | inl is_q ↦ sym is_o ∙ is_q
    | inr later ↦ absurd (All-contains (λ b. x.id ≢ b.id) xs q (pairs_head (λ a b. a.id ≢ b.id) x xs pairs) later (ap (λ (a : Object). a.id) is_o ∙ same))
  ]
  | inr later_o ↦ elim (there_cases x xs q second) [
    | inl is_q ↦ absurd (All-contains (λ b. x.id ≢ b.id) xs o (pairs_head (λ a b. a.id ≢ b.id) x xs pairs) later_o (ap (λ (a : Object). a.id) is_q ∙ sym same))
    | inr later_q ↦ one_object xs o q (pairs_tail (λ a b. a.id ≢ b.id) x xs pairs) later_o later_q same
  ]
]

tree_low : (trees : Trees) (i : ℕ) (tree : Tree) → tree_at trees i ≡ Some tree → i < count trees
tree_low End i tree there = absurd (cc)
tree_low (And first trees) zero tree there = omega arith
tree_low (And first trees) (suc i) tree there = let rest = tree_low trees i tree there in omega (arith, rest)

pub some_same : {X : Type 0} (x y : X) → Some x ≡ Some y → x ≡ y
some_same x y e = cc

-- what holds of one element: its value, its leaves, and what the walk gives there
pub record ElementEdges (program : Program) (layouts : Layouts) (tables : Tables) (objects : Objects) (heap : Heap) (o : Object) (i address : ℕ) : Type 0 where
  pub tree : Tree
  pub leaves : List Leaf
  pub there : tree_at (elements_in o.value) i ≡ Some tree
  pub fits : Fits program (blocks_of heap.graph.objects) o.capacity (outside heap.graph.statics) (element_type program o.kind) tree
  pub has : HasLeaves program layouts.structures 0 (element_type program o.kind) tree leaves
  pub gives : walk_edges tables objects.space MOST_NESTED (walk_of program o.kind) (frame_at address) ≡ edges_at program (blocks_of heap.graph.objects) address leaves

module _ (program : Program) (layouts : Layouts) (tables : Tables) (settled : Settled program) (laid : IsLaidOut program layouts) (are : AreTables program layouts tables) (objects : Objects) (heap : Heap)
    (is : IsHeapOf program layouts objects heap) (space : IsSpace objects.space) where
  abbrev pub blocks : Blocks
  blocks = blocks_of heap.graph.objects

  abbrev pub walks : Walks
  walks = walks_in program heap.graph.objects

  -- ---- blocks and objects

  pub slot_names : map (λ s. s.address) objects.pages.slots ≡ map (λ o. o.id) heap.graph.objects
  slot_names =
      let one = ap (λ (l : Ledger). map (λ b. b.address) l.blocks) is.ledger in
      sym (twice_mapped block_of (λ b. b.address) objects.pages.slots)
      ∙ one
      ∙ twice_mapped (λ p. p.block) (λ b. b.address) heap.places.placed
      ∙ map_by heap.places.placed is.good.places.by_address
      ∙ is.good.places.names

  found_itself : (o : Object) → Contains heap.graph.objects o → object_of heap.graph.objects o.id ≡ Some o
  found_itself o there =
      let found = object_found heap.graph.objects o.id o there refl in
      found.1 ∙ ap Some (one_object heap.graph.objects found.0 o is.good.graph.distinct found.2 there found.3)

  pub walked_as : (o : Object) → Contains heap.graph.objects o → walks o.id ≡ walked_of program o
  walked_as o there = ap (λ x. option_map_or (walked_of program) x (by_walk (walk_of program Chars) 0)) (found_itself o there)

  -- an edge to a block names the object there, as it is walked
  pub names_block : (place id : ℕ) (b : Block) → blocks id ≡ Some b → NamesBlock objects.pages.slots walks (edge_to program place id b)
  names_block place id b e =
      let found = object_of_block heap.graph.objects id b e in
      let slot = there_mapped (λ s. s.address) objects.pages.slots id (subst (λ ns. Contains ns id) (sym slot_names) (subst (Contains (map (λ o. o.id) heap.graph.objects)) found.3 (map_there (λ o. o.id) heap.graph.objects found.0 found.2))) in
      let way = ap (λ x. option_map_or (walked_of program) x (by_walk (walk_of program Chars) 0)) found.1 in
      record {
        starts = slot;
        walk = ap (λ (x : Block). walk_of program x.kind) (sym found.4) ∙ sym (ap (λ (w : Walked). w.walk) way);
        count = ap (λ (x : Block). walked x.kind x.count) (sym found.4) ∙ sym (ap (λ (w : Walked). w.count) way);
      }

  -- ---- one object

  module _ (o : Object) (there : Contains heap.graph.objects o) where
    its : IsObject program heap.graph o
    its = All-contains (IsObject program heap.graph) heap.graph.objects o is.good.graph.objects there

    abbrev pub step : ℕ
    step = size_in_note (rows_of tables (walk_of program o.kind))

    -- its edges, by its walk
    pub edges_by : block_edges tables objects.space walks o.id ≡ edges_of tables (walk_of program o.kind) (walked o.kind o.count) objects.space o.id
    edges_by = ap (λ (w : Walked). edges_of tables w.walk w.count objects.space o.id) (walked_as o there)

    module _ (chars : o.kind ≢ Chars) (raw : o.kind ≢ Raw) (i : ℕ) (low : i < o.count) where
      abbrev p : Placed
      p = (lies program layouts settled laid objects heap is space o there).0

      placed : Contains heap.places.placed p
      placed = (lies program layouts settled laid objects heap is space o there).1

      named : p.id ≡ o.id
      named = (lies program layouts settled laid objects heap is space o there).2

      abbrev n : ℕ
      n = size program layouts settled laid objects heap is space o there

      address : p.block.address + n * i ≡ o.id + i * step
      address =
          let here : p.block.address ≡ o.id = sym (name_is is.good.places p placed) ∙ named in
          ap (λ a. a + n * i) here ∙ ap (λ k. o.id + k) (sym (stride program layouts settled laid objects heap is space o there tables are chars raw i low))

      taking : Takes program layouts o.capacity (element_type program o.kind) n
      taking = takes program layouts settled laid objects heap is space o there

      abbrev its_block : BlockStands program layouts (address_in heap.places.placed) objects.space o p.block
      its_block = block program layouts settled laid objects heap is space o there p placed named n taking

      element : (tree : Tree) × (tree_at its_block.has.trees i ≡ Some tree)
      element = let found = at program layouts settled laid objects heap is space o there p placed named n taking i low in (found.0, found.1)

      value : IsValueOf program layouts blocks heap.graph.statics o.kind o.capacity itself 0 (bytes_at objects.space (p.block.address + n * i) n) element.0
      value =
          its_value program layouts settled laid blocks heap.graph.statics o.kind o.capacity n i its_block.has.trees element.0 its_block.leaves taking
          (each program layouts settled laid objects heap is space o there p placed named n taking)
          (each_fits program layouts settled laid objects heap is space o there p placed named n taking)
          element.1 objects.space p.block.address p.block.size
          (block_room program layouts settled laid objects heap is space p placed)
          (place_room program layouts settled laid objects heap is space o there p placed named n taking i low)
          (by_itself program layouts settled laid objects heap is space o there p placed named n taking)

      room : IsInside objects.space (p.block.address + n * i) n
      room =
          its_room program layouts settled laid blocks heap.graph.statics o.kind o.capacity n i its_block.has.trees element.0 its_block.leaves taking
          (each program layouts settled laid objects heap is space o there p placed named n taking)
          (each_fits program layouts settled laid objects heap is space o there p placed named n taking)
          element.1 objects.space p.block.address p.block.size
          (block_room program layouts settled laid objects heap is space p placed)
          (place_room program layouts settled laid objects heap is space o there p placed named n taking i low)

      begins : 1 ≤ p.block.address + n * i
      begins = let above = (in_space program layouts settled laid objects heap is space p placed).0 in omega (arith, above)

      few : o.capacity < 2 ^ 32
      few = let most = few_room program layouts settled laid objects heap is space o there in omega (arith, most)

      gives : walk_edges tables objects.space MOST_NESTED (walk_of program o.kind) (frame_at (p.block.address + n * i)) ≡ edges_at program blocks (p.block.address + n * i) value.leaves
      gives =
          are.elements blocks heap.graph.statics o.kind o.capacity n objects.space (p.block.address + n * i) element.0 space
          (addresses program layouts settled laid objects heap is space)
          (have_few program layouts settled laid objects heap is space)
          its.may_hold few taking begins room value

      -- the walk gives the edges of an element where it lies
      pub element_gives : ElementEdges program layouts tables objects heap o i (o.id + i * step)
      element_gives = record {
        tree = element.0;
        leaves = value.leaves;
        there = ap (λ v. tree_at (elements_in v) i) its_block.has.row ∙ element.1;
        fits = value.fits;
        has = value.has;
        gives = subst (λ a. walk_edges tables objects.space MOST_NESTED (walk_of program o.kind) (frame_at a) ≡ edges_at program blocks a value.leaves) address gives;
      }

    -- ---- all its elements

    pub as_many : count (elements_in o.value) ≡ o.count
    as_many = ap (λ v. count (elements_in v)) its.fits.row ∙ its.fits.as_many

    all_elements : all_edges (elements_in o.value) ≡ edges o.value
    all_elements = ap (λ v. all_edges (elements_in v)) its.fits.row ∙ sym (ap edges its.fits.row)

    abbrev pub gives_at : ℕ → List Edge
    gives_at i = walk_edges tables objects.space MOST_NESTED (walk_of program o.kind) (frame_at (o.id + i * step))

    -- what the walk gives of an element has the edges of its value as targets, and each names an object
    element_targets : (i address : ℕ) (e : ElementEdges program layouts tables objects heap o i address) → targets_of (edges_at program blocks address e.leaves) ≡ edges e.tree
    element_targets i address e =
        let same = edges-targets program layouts blocks o.capacity (outside heap.graph.statics) (element_type program o.kind) e.tree 0 e.leaves e.fits e.has in
        leaf_targets program blocks address e.leaves (λ id has. edge_named e.fits id (subst (λ xs. Contains xs id) (sym same) has)) ∙ sym same

    module _ (chars : o.kind ≢ Chars) (raw : o.kind ≢ Raw) where
      target_at : (i : ℕ) (tree : Tree) → tree_at (elements_in o.value) i ≡ Some tree → targets_of (gives_at (0 + i)) ≡ edges tree
      target_at i tree there =
          let low : i < o.count = subst (λ n. i < n) as_many (tree_low (elements_in o.value) i tree there) in
          let e = element_gives chars raw i low in
          let same : e.tree ≡ tree = some_same e.tree tree (sym e.there ∙ there) in
          let here : 0 + i ≡ i = omega arith in
          ap (λ k. targets_of (gives_at k)) here ∙ ap targets_of e.gives ∙ element_targets i (o.id + i * step) e ∙ ap edges same

      names_at : (i : ℕ) → i < o.count → All (NamesBlock objects.pages.slots walks) (gives_at (0 + i))
      names_at i low =
          let e = element_gives chars raw i low in
          let here : i ≡ 0 + i = omega arith in
          subst (λ k. All (NamesBlock objects.pages.slots walks) (gives_at k)) here
          (subst (All (NamesBlock objects.pages.slots walks)) (sym e.gives) (leaf_edges program blocks (o.id + i * step) (NamesBlock objects.pages.slots walks) names_block e.leaves))

      pub edges_all : walked o.kind o.count ≡ o.count → block_edges tables objects.space walks o.id ≡ flat_map gives_at (range_with_len 0 o.count)
      edges_all all = edges_by ∙ ap (λ n. flat_map gives_at (range_with_len 0 n)) all

      many_targets : walked o.kind o.count ≡ o.count → targets_of (block_edges tables objects.space walks o.id) ≡ edges o.value
      many_targets all = ap targets_of (edges_all all) ∙ each_target gives_at o.count 0 (elements_in o.value) as_many target_at ∙ all_elements

      many_names : walked o.kind o.count ≡ o.count → All (NamesBlock objects.pages.slots walks) (block_edges tables objects.space walks o.id)
      many_names all =
          subst (All (NamesBlock objects.pages.slots walks)) (sym (edges_all all)) (each_all (NamesBlock objects.pages.slots walks) gives_at o.count 0 names_at)

    -- characters and bytes that are never scanned have no edges
    none_walked : walked o.kind o.count ≡ 0 → block_edges tables objects.space walks o.id ≡ []
    none_walked none = edges_by ∙ ap (λ n. flat_map gives_at (range_with_len 0 n)) none

    bare : (scalar : Scalar) → element_type program o.kind ≡ ty.Num scalar → edges o.value ≡ []
    bare scalar byte = ap edges its.fits.row ∙ no_edges scalar its.fits.trees (subst (λ t. EachFits program blocks o.capacity (outside heap.graph.statics) t its.fits.trees) byte its.fits.each)

    targets_by : (kind : Kind) → o.kind ≡ kind → targets_of (block_edges tables objects.space walks o.id) ≡ edges o.value
    targets_by (Nodes node) e = many_targets (λ c. let both = sym e ∙ c in cc) (λ c. let both = sym e ∙ c in cc) (ap (λ k. walked k o.count) e)
    targets_by (Pointers node) e = many_targets (λ c. let both = sym e ∙ c in cc) (λ c. let both = sym e ∙ c in cc) (ap (λ k. walked k o.count) e)
    targets_by Strings e = many_targets (λ c. let both = sym e ∙ c in cc) (λ c. let both = sym e ∙ c in cc) (ap (λ k. walked k o.count) e)
    targets_by Chars e = ap targets_of (none_walked (ap (λ k. walked k o.count) e)) ∙ sym (bare _ (ap (element_type program) e))
    targets_by Raw e = ap targets_of (none_walked (ap (λ k. walked k o.count) e)) ∙ sym (bare _ (ap (element_type program) e))

    names_by : (kind : Kind) → o.kind ≡ kind → All (NamesBlock objects.pages.slots walks) (block_edges tables objects.space walks o.id)
    names_by (Nodes node) e = many_names (λ c. let both = sym e ∙ c in cc) (λ c. let both = sym e ∙ c in cc) (ap (λ k. walked k o.count) e)
    names_by (Pointers node) e = many_names (λ c. let both = sym e ∙ c in cc) (λ c. let both = sym e ∙ c in cc) (ap (λ k. walked k o.count) e)
    names_by Strings e = many_names (λ c. let both = sym e ∙ c in cc) (λ c. let both = sym e ∙ c in cc) (ap (λ k. walked k o.count) e)
    names_by Chars e = subst (All (NamesBlock objects.pages.slots walks)) (sym (none_walked (ap (λ k. walked k o.count) e))) (All-nil (NamesBlock objects.pages.slots walks))
    names_by Raw e = subst (All (NamesBlock objects.pages.slots walks)) (sym (none_walked (ap (λ k. walked k o.count) e))) (All-nil (NamesBlock objects.pages.slots walks))

    -- the edges of an object, in order
    pub object_targets : targets_of (block_edges tables objects.space walks o.id) ≡ edges o.value
    object_targets = targets_by o.kind refl

    -- each names an object as this is walked
    pub object_names : All (NamesBlock objects.pages.slots walks) (block_edges tables objects.space walks o.id)
    object_names = names_by o.kind refl
