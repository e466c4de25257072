-- The element at a place of an object, and the static record, in the bytes of a heap.
use Rattle.std.proofs.Common.{◌≡◌, ℕ, ◌+◌, ◌-◌, ◌*◌, ◌^◌, ◌<◌, ◌≤◌, Some, refl, ap, sym, subst, ◌∙◌, arith}
use Rattle.std.specs.Prelude.{[], ◌∷◌, Contains}
use Rattle.std.proofs.lemmas.List.Elements.{All-contains}
use Rattle.gt_types.specs.declared.types.Ty.{Ty}
use Rattle.gt_types.specs.declared.program.Program.{Program}
use Rattle.gt_types.specs.Settled.{Settled}
use Rattle.gt_layout.specs.declared.planes.Layouts.{Layouts}
use Rattle.gt_layout.specs.Planes.{IsLaidOut}
use Rattle.gt_layout.specs.Excess.{IsWithin}
use Rattle.gt_space.specs.Range.{IsInside, IsSpace, bytes_at}
use Rattle.gt_tree.specs.Trees.{Tree, count, tree_at, part_at, part_of}
use Rattle.gt_tree.specs.Blocks.{Block, Blocks, element_type}
use Rattle.gt_tree.specs.Scopes.{outside}
use Rattle.gt_tree.specs.Fits.{EachFits, BlockFits}
use Rattle.gt_tree.specs.Leaves.{EachHasLeaves, Stand}
use Rattle.gt_tree.specs.LeafLaws.{IsWidth}
use Rattle.gt_tree.specs.FixedLaws.{AreAddresses, MayHold, IsValueOf}
use Rattle.gt_value.specs.Names.{kind_of}
use Rattle.gt_value.specs.Bytes.{itself, IsElement, IsRoomFor, Takes}
use Rattle.gt_store.proofs.Putting.{takes-same}
use Rattle.gt_leaf.specs.Writing.{StandsBeside}
use Rattle.gt_pages.specs.Ledger.{page_address}
use Rattle.gt_graph.specs.Objects.{Object, object_of, blocks_of}
use Rattle.gt_graph.specs.Places.{Placed, address_in, ledger_of}
use Rattle.gt_graph.specs.Good.{Heap, IsObject}
use Rattle.gt_graph.specs.Stands.{BlockStands}
use Rattle.gt_objects.specs.declared.objects.Known.{Known}
use Rattle.gt_objects.specs.declared.objects.Objects.{Objects}
use Rattle.gt_objects.specs.Knowing.{IsKnownAt}
use Rattle.gt_objects.specs.Holding.{IsHeapOf}
use Rattle.gt_objects.proofs.Items.{map_there}
use Rattle.gt_objects.proofs.Leaves.{same_each, same_fields, stand_same}
use Rattle.gt_objects.proofs.Listed.{rounded_listed}
use Rattle.gt_objects.proofs.Naming.{address_named, name_is, object_is, object_of_block, placed_of}
use Rattle.gt_objects.proofs.Spaces.{block_inside, record_inside}
use Rattle.gt_elements.specs.declared.parts.Element.{Element}
use Rattle.gt_elements.specs.Elements.{IsElementOf, IsElementAt, RootsStand}
use Rattle.gt_elements.proofs.Among.{its_room, its_value, tree_there, whole_width}

-- so many places have room for each
one_of_many : (i rest size : ℕ) → size * i + size ≤ (i + 1 + rest) * size
one_of_many i rest size = omega arith

pub place_within : (count i size : ℕ) → i < count → size * i + size ≤ count * size
place_within count i size low =
    let all : i + 1 + (count - (i + 1)) ≡ count = omega (arith, low) in
    subst (λ n. size * i + size ≤ n * size) all (one_of_many i (count - (i + 1)) size)

module _ (program : Program) (layouts : Layouts) (settled : Settled program) (laid : IsLaidOut program layouts) (objects : Objects) (heap : Heap) (is : IsHeapOf program layouts objects heap) (space : IsSpace objects.space) where
  abbrev blocks : Blocks
  blocks = blocks_of heap.graph.objects

  pub in_space : (p : Placed) → Contains heap.places.placed p → (0x10000000 ≤ p.block.address) × (p.block.address + p.block.size ≤ page_address heap.places.pages)
  in_space p there =
      All-contains (λ b. (0x10000000 ≤ b.address) × (b.address + b.size ≤ page_address heap.places.pages)) (ledger_of heap.places).blocks p.block is.good.places.sound.in_space
      (map_there (λ p. p.block) heap.places.placed p there)

  pub block_room : (p : Placed) → Contains heap.places.placed p → IsInside objects.space p.block.address p.block.size
  block_room p there = let at = in_space p there in block_inside objects.space heap.places.pages layouts.statics.size is.stands.sized p.block.address p.block.size at.0 at.1

  ends_low : page_address heap.places.pages < 2 ^ 64
  ends_low =
      let start = is.stands.sized.start in
      let len = is.stands.sized.len in
      let ends = space.ends in
      omega (arith, start, len, ends)

  -- ---- blocks have addresses

  named_at : (id : ℕ) (b : Block) → blocks id ≡ Some b → (0x10000000 ≤ id) × (id < 2 ^ 64)
  named_at id b e =
      let o = object_of_block heap.graph.objects id b e in
      let p = placed_of is.good.places o.0 o.2 in
      let here : p.0.block.address ≡ id = sym (name_is is.good.places p.0 p.1) ∙ p.2 ∙ o.3 in
      let at = in_space p.0 p.1 in
      let low = ends_low in
      (omega (arith, here, at.0), omega (arith, here, at.1, low))

  pub addresses : AreAddresses blocks itself
  addresses = record {
    not_null = λ id b e. let at = named_at id b e in omega (arith, at.0);
    small = λ id b e. (named_at id b e).1;
    apart = λ id other b c e f same. same;
  }

  -- ---- the static record

  pub roots : IsWithin program layouts → RootsStand program layouts objects heap
  roots within =
      let record_stands = is.stands.statics in
      record {
        inside = record_inside objects.space heap.places.pages layouts.statics.size is.stands.sized within.statics;
        stand = record {
          addresses = addresses;
          are = record {
            leaves = record_stands.leaves;
            fit = is.good.graph.statics;
            have = record_stands.has;
            stand = stand_same (address_in heap.places.placed) itself record_stands.leaves (bytes_at objects.space objects.space.start layouts.statics.size)
                (same_fields (address_in heap.places.placed) itself program layouts.structures blocks 0 (λ id b e. address_named is.good.places id b e) record_stands.has (outside heap.graph.statics) is.good.graph.statics)
                record_stands.stand;
          };
        };
      }

  -- ---- one element

  module _ (o : Object) (there : Contains heap.graph.objects o) (p : Placed) (lies : Contains heap.places.placed p) (named : p.id ≡ o.id) (size : ℕ) (takes : Takes program layouts o.capacity (element_type program o.kind) size) where
    abbrev type : Ty
    type = element_type program o.kind

    is_object : IsObject program heap.graph o
    is_object = All-contains (IsObject program heap.graph) heap.graph.objects o is.good.graph.objects there

    pub of_block : IsElement program type
    of_block = (o.kind, is_object.may_hold, refl)

    pub one_size : (other : ℕ) → Takes program layouts o.capacity type other → other ≡ size
    one_size other its = takes-same program layouts o.capacity type settled laid of_block other size its takes

    pub block : BlockStands program layouts (address_in heap.places.placed) objects.space o p.block
    block = is.stands.objects o p there lies named

    pub fits : BlockFits program blocks heap.graph.statics o.kind o.count o.capacity o.value
    fits = is_object.fits

    same : fits.trees ≡ block.has.trees
    same = let mine = fits.row in let its = block.has.row in cc

    pub each_fits : EachFits program blocks o.capacity (outside heap.graph.statics) type block.has.trees
    each_fits = subst (λ ts. EachFits program blocks o.capacity (outside heap.graph.statics) type ts) same fits.each

    pub width : block.has.width ≡ 8 * size
    width =
        let whole = whole_width program layouts o.kind o.capacity block.has.width block.has.wide in
        whole.1 ∙ ap (λ n. 8 * n) (one_size whole.0 (subst (λ w. IsWidth program layouts.structures o.capacity type w) whole.1 block.has.wide))

    pub each : EachHasLeaves program layouts.structures (8 * size) 0 type block.has.trees block.leaves
    each = subst (λ w. EachHasLeaves program layouts.structures w 0 type block.has.trees block.leaves) width block.has.each

    pub by_itself : Stand itself block.leaves (bytes_at objects.space p.block.address p.block.size)
    by_itself =
        stand_same (address_in heap.places.placed) itself block.leaves (bytes_at objects.space p.block.address p.block.size)
        (same_each (address_in heap.places.placed) itself program layouts.structures blocks o.capacity (λ id b e. address_named is.good.places id b e) block.has.each (outside heap.graph.statics) each_fits)
        block.stand

    -- its block has room for all
    pub block_holds : o.count * size ≤ p.block.size
    block_holds =
        let sized = is.good.places.sizes o p there lies named in
        let bytes = sized.1 in
        let its : bytes.0 ≡ size = one_size bytes.0 bytes.1 in
        let enough : o.count * size ≡ sized.0 = sym (bytes.2 ∙ ap (λ n. o.count * n) its) in
        let most = (rounded_listed sized.0 p.block.size sized.2).1 in
        omega (arith, enough, most)

    module _ (place : ℕ) (low : place < o.count) where
      pub place_room : size * place + size ≤ p.block.size
      place_room =
          let all = block_holds in
          let first = place_within o.count place size low in
          omega (arith, all, first)

      pub at : (tree : Tree) × (tree_at block.has.trees place ≡ Some tree) × (part_of block.has.trees place [] ≡ Some tree)
      at = tree_there block.has.trees place (subst (λ n. place < n) (sym (ap count (sym same) ∙ fits.as_many)) low)

      part : part_at o.value (place ∷ []) ≡ Some at.0
      part = ap (λ v. part_at v (place ∷ [])) block.has.row ∙ at.2

      pub address_low : p.block.address + size * place < 2 ^ 64
      address_low =
          let space = in_space p lies in
          let room = place_room in
          let ends = ends_low in
          omega (arith, space.1, room, ends)

      element_room : IsInside objects.space (p.block.address + size * place) size
      element_room =
          its_room program layouts settled laid blocks heap.graph.statics o.kind o.capacity size place block.has.trees at.0 block.leaves takes each each_fits at.1 objects.space p.block.address p.block.size (block_room p lies) place_room

      pub element_value : IsValueOf program layouts blocks heap.graph.statics o.kind o.capacity itself 0 (bytes_at objects.space (p.block.address + size * place) size) at.0
      element_value =
          its_value program layouts settled laid blocks heap.graph.statics o.kind o.capacity size place block.has.trees at.0 block.leaves takes each each_fits at.1 objects.space p.block.address p.block.size (block_room p lies) place_room by_itself

      -- the element is what was said of it, wherever the object was found
      module _ (e : Element) (kind : o.kind ≡ kind_of e.kind) (capacity : o.capacity ≡ e.capacity) (addr : p.block.address + size * place ≡ e.addr) where
        its_inside : (other : ℕ) → Takes program layouts o.capacity type other → IsInside objects.space e.addr other
        its_inside other its =
            subst (λ a. IsInside objects.space a other) addr (subst (λ n. IsInside objects.space (p.block.address + size * place) n) (sym (one_size other its)) element_room)

        its_stand : StandsBeside program layouts blocks heap.graph.statics o.capacity type objects.space e.addr at.0
        its_stand = record {
          kind = o.kind;
          held = is_object.may_hold;
          of_kind = refl;
          size = size;
          takes = takes;
          addresses = addresses;
          is = subst (λ a. IsValueOf program layouts blocks heap.graph.statics o.kind o.capacity itself 0 (bytes_at objects.space a size) at.0) addr element_value;
        }

        its_place : (other : ℕ) → Takes program layouts o.capacity type other → e.addr ≡ o.id + other * place
        its_place other its =
            let named_here : p.block.address ≡ o.id = sym (name_is is.good.places p lies) ∙ named in
            sym addr ∙ ap (λ a. a + size * place) named_here ∙ ap (λ n. o.id + n * place) (sym (one_size other its))

        pub element_is : IsElementOf program layouts heap objects.space o place e
        element_is = record {
          kind = kind;
          capacity = capacity;
          lies = subst (λ n. (other : ℕ) → Takes program layouts n type other → e.addr ≡ o.id + other * place) capacity its_place;
          inside = subst (λ n. IsRoomFor program layouts n type objects.space e.addr) capacity its_inside;
          tree = at.0;
          there = part;
          stands = subst (λ n. StandsBeside program layouts blocks heap.graph.statics n type objects.space e.addr at.0) capacity its_stand;
        }

  -- ---- what is answered of an address

  module _ (address : ℕ) (known : Known) (at : IsKnownAt heap.graph.objects address (Some known)) where
    abbrev o : Object
    o = at.0

    there : Contains heap.graph.objects o × (o.id ≡ address)
    there = object_is heap.graph.objects address o at.1

    pub known_held : MayHold program (kind_of known.kind)
    known_held = subst (MayHold program) at.2.kind (All-contains (IsObject program heap.graph) heap.graph.objects o is.good.graph.objects there.0).may_hold

    pub known_missing : (place : ℕ) → known.count ≤ place → (q : Object) → object_of heap.graph.objects address ≡ Some q → place < q.count → ⊥
    known_missing place past q found low =
        let one : o ≡ q = let mine = at.1 in cc in
        let many : q.count ≡ known.count = sym (ap (λ x. x.count) one) ∙ at.2.count in
        absurd (let no : 1 ≤ 0 = omega (arith, past, low, many) in omega (arith, no))

    -- an element has a size
    some_size : (size : ℕ) × Takes program layouts known.capacity (element_type program (kind_of known.kind)) size
    some_size =
        let p = placed_of is.good.places o there.0 in
        let bytes = (is.good.places.sizes o p.0 there.0 p.1 p.2).1 in (
          bytes.0,
          subst (λ n. Takes program layouts n (element_type program (kind_of known.kind)) bytes.0) at.2.capacity
              (subst (λ k. Takes program layouts o.capacity (element_type program k) bytes.0) at.2.kind bytes.1),
        )

    module _ (place size : ℕ) (low : place < known.count) (takes : Takes program layouts known.capacity (element_type program (kind_of known.kind)) size) where
      its_takes : Takes program layouts o.capacity (element_type program o.kind) size
      its_takes =
          subst (λ n. Takes program layouts n (element_type program o.kind) size) (sym at.2.capacity)
          (subst (λ k. Takes program layouts known.capacity (element_type program k) size) (sym at.2.kind) takes)

      its_low : place < o.count
      its_low = subst (λ n. place < n) (sym at.2.count) low

      lies : (p : Placed) × Contains heap.places.placed p × (p.id ≡ o.id)
      lies = placed_of is.good.places o there.0

      here : lies.0.block.address ≡ address
      here = sym (name_is is.good.places lies.0 lies.1) ∙ lies.2 ∙ there.1

      pub known_low : address + size * place < 2 ^ 64
      known_low = subst (λ a. a + size * place < 2 ^ 64) here (address_low o there.0 lies.0 lies.1 lies.2 size its_takes place its_low)

      pub known_element : IsElementAt program layouts heap objects.space address place (Some (record { kind = known.kind; addr = address + size * place; capacity = known.capacity }))
      known_element =
          (o, at.1, element_is o there.0 lies.0 lies.1 lies.2 size its_takes place its_low (record { kind = known.kind; addr = address + size * place; capacity = known.capacity }) at.2.kind at.2.capacity (ap (λ a. a + size * place) here))

    -- the first element begins where its object does
    pub known_first : (place : ℕ) → place ≡ 0 → place < known.count → IsElementAt program layouts heap objects.space address place (Some (record { kind = known.kind; addr = address; capacity = known.capacity }))
    known_first place first low =
        let size = some_size in
        let begins : address + size.0 * place ≡ address = ap (λ i. address + size.0 * i) first ∙ omega arith in
        subst (λ a. IsElementAt program layouts heap objects.space address place (Some (record { kind = known.kind; addr = a; capacity = known.capacity }))) begins (known_element place size.0 low size.1)
