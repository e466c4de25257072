-- How large the blocks of a heap are: none has 2^32 elements or room for so many, and the note of its walk tells how far its elements stand apart.
use Rattle.std.proofs.Common.{◌≡◌, ◌∙◌, ℕ, ◌*◌, ◌<◌, ◌≤◌, List, ◌∷◌, Option, None, refl, sym, ap, subst, arith, inl, inr}
use Rattle.std.specs.Prelude.{◌≢◌, Contains}
use Rattle.std.proofs.Math.Nat.{mul_comm}
use Rattle.std.proofs.lemmas.Bool.{cases_eq, cases_lt}
use Rattle.std.proofs.lemmas.List.Elements.{All-contains}
use Rattle.gt_types.specs.declared.types.TypeId.{TypeId}
use Rattle.gt_types.specs.declared.program.Program.{Program}
use Rattle.gt_types.specs.Settled.{Settled}
use Rattle.gt_types.specs.Paths.{MayStand}
use Rattle.gt_types.specs.Tails.{IsTailType}
use Rattle.gt_layout.specs.declared.planes.Layouts.{Layouts}
use Rattle.gt_layout.specs.Capacity.{SizeAt}
use Rattle.gt_layout.specs.Planes.{IsLaidOut}
use Rattle.gt_layout.specs.Storages.{extent_of_plane}
use Rattle.gt_space.specs.Range.{IsSpace}
use Rattle.gt_tree.specs.Blocks.{Kind, Nodes, Pointers, Strings, Chars, Raw, Block, element_type}
use Rattle.gt_tree.specs.FixedLaws.{MayHold}
use Rattle.gt_tree.proofs.Structures.{get-as_long}
use Rattle.gt_value.specs.Bytes.{Takes}
use Rattle.gt_walk.specs.declared.rows.WalkRow.{WalkRow}
use Rattle.gt_walk.specs.declared.rows.WalkRow.TheOpen.{WalkRow-F}
use Rattle.gt_walk.specs.declared.rows.WalkRow.TheVariants as row
use Rattle.gt_walk.specs.declared.rows.WalkRow.TheVariants.{outs-Note}
use Rattle.gt_walk.specs.declared.tables.Tables.{Tables}
use Rattle.gt_walk.specs.Rows.{rows_of, size_in_note, note_size}
use Rattle.gt_edges.specs.Numbers.{walk_of}
use Rattle.gt_edges.specs.Edges.{HaveFew}
use Rattle.gt_graph.specs.Objects.{Object, blocks_of}
use Rattle.gt_graph.specs.Places.{Placed}
use Rattle.gt_graph.specs.Good.{Heap, IsObject, IsOfTails}
use Rattle.gt_held.proofs.SomeBytes.{size-some, tail-size}
use Rattle.gt_objects.specs.declared.objects.Objects.{Objects}
use Rattle.gt_objects.specs.Holding.{IsHeapOf}
use Rattle.gt_objects.proofs.Listed.{rounded_listed, size_bounds}
use Rattle.gt_objects.proofs.Naming.{object_of_block, placed_of}
use Rattle.gt_store.proofs.PlainSizes.{plain-size}
use Rattle.gt_objects.proofs.Widths.{pointers_take, strings_take, chars_take, raw_takes}
use Rattle.gt_elements.proofs.Found.{block_holds, one_size}
use Rattle.gt_edges.specs.Tables.{AreTables}

-- ---- numbers

below_times : (n size most : ℕ) → 1 ≤ size → n * size ≤ most → n ≤ most
below_times n size most some le = grind (arith, some, le)

-- ---- notes

note_of : (rows all : List WalkRow) (size : ℕ) (chain : Option ℕ) → all ≡ row.Note size chain ∷ rows → size_in_note all ≡ size
note_of rows all size chain is = ap size_in_note is ∙ ap (λ (x : WalkRow-F WalkRow _). note_size x) (outs-Note size chain)

-- ---- one object

module _ (program : Program) (layouts : Layouts) (settled : Settled program) (laid : IsLaidOut program layouts) (objects : Objects) (heap : Heap) (is : IsHeapOf program layouts objects heap) (space : IsSpace objects.space) where
  module _ (o : Object) (there : Contains heap.graph.objects o) where
    its : IsObject program heap.graph o
    its = All-contains (IsObject program heap.graph) heap.graph.objects o is.good.graph.objects there

    pub lies : (p : Placed) × Contains heap.places.placed p × (p.id ≡ o.id)
    lies = placed_of is.good.places o there

    -- how many bytes an element takes
    abbrev pub size : ℕ
    size = (is.good.places.sizes o lies.0 there lies.1 lies.2).1.0

    pub takes : Takes program layouts o.capacity (element_type program o.kind) size
    takes = (is.good.places.sizes o lies.0 there lies.1 lies.2).1.1

    -- where it is not one element, it has no room at its end
    no_room : o.count ≢ 1 → o.capacity ≡ 0
    no_room many = its.no_room (λ tails. many (its.single_tail tails))

    block_small : lies.0.block.size ≤ 1048576
    block_small =
        let sized = is.good.places.sizes o lies.0 there lies.1 lies.2 in
        (size_bounds lies.0.block.size (rounded_listed sized.0 lies.0.block.size sized.2).0).1

    all_small : o.count * size ≤ 1048576
    all_small = let all = block_holds program layouts settled laid objects heap is space o there lies.0 lies.1 lies.2 size takes in let small = block_small in omega (arith, all, small)

    one_of : (other : ℕ) → Takes program layouts o.capacity (element_type program o.kind) other → other ≡ size
    one_of other others = one_size program layouts settled laid objects heap is space o there lies.0 lies.1 lies.2 size takes other others

    -- elements that are no structures have one byte or eight
    plain_some : (other : ℕ) → 1 ≤ other → Takes program layouts o.capacity (element_type program o.kind) other → o.count ≤ 1048576
    plain_some other some others = let same = one_of other others in let all = all_small in below_times o.count size 1048576 (omega (arith, some, same)) all

    module _ (node : TypeId) (kind : o.kind ≡ Nodes node) where
      node_takes : Takes program layouts o.capacity (element_type program (Nodes node)) size
      node_takes = subst (λ k. Takes program layouts o.capacity (element_type program k) size) kind takes

      sized : SizeAt program layouts.structures o.capacity node size
      sized = let same : node_takes.0 ≡ size = (let e = node_takes.2 in omega (arith, e)) in subst (λ n. SizeAt program layouts.structures o.capacity node n) same node_takes.1

      stands : MayStand program node
      stands = subst (MayHold program) kind its.may_hold

      tails : IsTailType program node → IsOfTails program o.kind
      tails tail = (node, kind, tail)

      -- many structures have one byte at least each, and no room at their end
      node_some : o.count ≢ 1 → 1 ≤ size
      node_some many =
          let whole : ¬ IsTailType program node = λ tail. many (its.single_tail (tails tail)) in
          size-some program settled layouts.structures laid.structures 32 node (stands.0, stands.1, (λ n below nests. settled.depth n node below nests), whole) size
          (subst (λ n. SizeAt program layouts.structures n node size) (no_room many) sized)

      pub node_count : o.count ≤ 1048576
      node_count = elim (cases_eq o.count 1) [
        | inl one ↦ omega (arith, one)
        | inr many ↦ below_times o.count size 1048576 (node_some many) all_small
      ]

    by_kind_count : (kind : Kind) → o.kind ≡ kind → o.count ≤ 1048576
    by_kind_count (Nodes node) e = node_count node e
    by_kind_count (Pointers node) e = plain_some 8 (omega arith) (subst (λ k. Takes program layouts o.capacity (element_type program k) 8) (sym e) (pointers_take program layouts o.capacity node))
    by_kind_count Strings e = plain_some 8 (omega arith) (subst (λ k. Takes program layouts o.capacity (element_type program k) 8) (sym e) (strings_take program layouts o.capacity))
    by_kind_count Chars e = plain_some 1 (omega arith) (subst (λ k. Takes program layouts o.capacity (element_type program k) 1) (sym e) (chars_take program layouts o.capacity))
    by_kind_count Raw e = plain_some 1 (omega arith) (subst (λ k. Takes program layouts o.capacity (element_type program k) 1) (sym e) (raw_takes program layouts o.capacity))

    pub few_elements : o.count ≤ 1048576
    few_elements = by_kind_count o.kind refl

    -- room at the end is no larger than the block
    tails_room : IsOfTails program o.kind → o.capacity ≤ 1048576
    tails_room (node, kind, tail) =
        let least = tail-size program settled layouts.structures laid.structures o.capacity node tail size (sized node kind) in
        let one = its.single_tail (node, kind, tail) in
        let all : o.count * size ≤ 1048576 = all_small in
        let same : o.count * size ≡ 1 * size = ap (λ n. n * size) one in
        omega (arith, least, same, all)

    pub few_room : o.capacity ≤ 1048576
    few_room = elim (cases_lt 1048576 o.capacity) [
      | inl large ↦ let none = its.no_room (λ tails. let low = tails_room tails in absurd (omega (arith, low, large))) in omega (arith, none)
      | inr low ↦ low
    ]

    -- ---- how far elements stand apart

    module _ (tables : Tables) (are : AreTables program layouts tables) where
      abbrev pub note : ℕ
      note = size_in_note (rows_of tables (walk_of program o.kind))

      eight : size ≡ 8 → (kind : Kind) → o.kind ≡ kind → size_in_note (rows_of tables (walk_of program kind)) ≡ 8 → note ≡ size
      eight here kind e there = ap (λ k. size_in_note (rows_of tables (walk_of program k))) e ∙ there ∙ sym here

      node_note : (node : TypeId) → o.kind ≡ Nodes node → o.count ≢ 1 → note ≡ size
      node_note node kind many =
          let may = stands node kind in
          let plane = get-as_long layouts.structures program.structures node.0 may.0 laid.structures.all may.1 in
          let told = are.blocks.structures node may.0 plane.0 may.1 plane.1 in
          let long = plain-size program layouts.structures laid.structures node size (subst (λ n. SizeAt program layouts.structures n node size) (no_room many) (sized node kind)) in
          ap (λ k. size_in_note (rows_of tables (walk_of program k))) kind
          ∙ note_of told.0 (rows_of tables node.0) plane.0.size _ told.1
          ∙ sym (long ∙ ap (λ o. (extent_of_plane o).size) plane.1)

      stride_by : (kind : Kind) → o.kind ≡ kind → kind ≢ Chars → kind ≢ Raw → (i : ℕ) → i < o.count → i * note ≡ size * i
      stride_by (Nodes node) e chars raw i low = elim (cases_eq o.count 1) [
        | inl one ↦ let first : i ≡ 0 = omega (arith, one, low) in ap (λ n. n * note) first ∙ sym (ap (λ n. size * n) first ∙ omega arith)
        | inr many ↦ ap (λ n. i * n) (node_note node e many) ∙ mul_comm i size
      ]
      stride_by (Pointers node) e chars raw i low =
          let may = subst (MayHold program) e its.may_hold in
          let here = sym (one_of 8 (subst (λ k. Takes program layouts o.capacity (element_type program k) 8) (sym e) (pointers_take program layouts o.capacity node))) in
          ap (λ n. i * n) (eight here (Pointers node) e (note_of _ (rows_of tables (walk_of program (Pointers node))) 8 None (are.blocks.pointers node may))) ∙ mul_comm i size
      stride_by Strings e chars raw i low =
          let here = sym (one_of 8 (subst (λ k. Takes program layouts o.capacity (element_type program k) 8) (sym e) (strings_take program layouts o.capacity))) in
          ap (λ n. i * n) (eight here Strings e (note_of _ (rows_of tables (walk_of program Strings)) 8 None are.numbered.strings)) ∙ mul_comm i size
      stride_by Chars e chars raw i low = absurd (chars refl)
      stride_by Raw e chars raw i low = absurd (raw refl)

      pub stride : o.kind ≢ Chars → o.kind ≢ Raw → (i : ℕ) → i < o.count → i * note ≡ size * i
      stride chars raw i low = stride_by o.kind refl chars raw i low

  -- no block has 2^32 elements
  pub have_few : HaveFew (blocks_of heap.graph.objects)
  have_few id b e =
      let found = object_of_block heap.graph.objects id b e in
      let few = few_elements found.0 found.2 in
      let same = ap (λ (x : Block). x.count) found.4 in
      omega (arith, few, same)
