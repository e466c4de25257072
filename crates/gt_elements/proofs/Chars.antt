-- The characters of a block are its bytes.
use Rattle.std.proofs.Common.{◌≡◌, ℕ, zero, suc, ◌+◌, ◌-◌, ◌*◌, ◌/◌, ◌%◌, ◌<◌, ◌≤◌, false, IsTrue, List, ◌∷◌, ◌++◌, length, get_or, Some, refl, ap, sym, subst, ◌∙◌, arith}
use Rattle.std.specs.Prelude.{[], ℤ, pos, negsuc, Contains}
use Rattle.std.proofs.lemmas.Bool.{false≢true, ltb-true}
use Rattle.gt_types.specs.declared.types.Scalar.{Scalar}
use Rattle.gt_types.specs.declared.types.Scalar.TheVariants as scalar
use Rattle.gt_types.specs.declared.types.Ty.{Ty}
use Rattle.gt_types.specs.declared.types.Ty.TheVariants as ty
use Rattle.gt_types.specs.declared.types.Ty.TheVariants.{outs-Num}
use Rattle.gt_types.specs.declared.types.Width.TheVariants.{W1}
use Rattle.gt_types.specs.declared.program.Program.{Program}
use Rattle.gt_types.specs.Settled.{Settled}
use Rattle.gt_types.specs.Shapes.{bits_of}
use Rattle.gt_layout.specs.declared.planes.Layouts.{Layouts}
use Rattle.gt_layout.specs.Planes.{IsLaidOut}
use Rattle.gt_space.specs.Range.{IsInside, IsSpace, bytes_at}
use Rattle.gt_space.proofs.RangeLemmas.{length-bytes_at}
use Rattle.gt_tree.specs.Numbers.{is_signed, has_room}
use Rattle.gt_tree.specs.Trees.{Tree, Num, Trees, End, And, count, tree_at}
use Rattle.gt_tree.specs.Blocks.{Chars, Blocks, element_type}
use Rattle.gt_tree.specs.Scopes.{Scope, outside}
use Rattle.gt_tree.specs.Fits.{Fits, EachFits, EndsInZero, EndsAs}
use Rattle.gt_tree.specs.Leaves.{leaf, Number, bit_of, Stand}
use Rattle.gt_tree.specs.LeafLaws.{IsTypeIn, LieInOrder}
use Rattle.gt_tree.specs.FixedLaws.{IsValueOf}
use Rattle.gt_tree.proofs.FixedBits.{leaves-read, same_bits}
use Rattle.gt_tree.proofs.Known.{value-placed}
use Rattle.gt_value.specs.Bytes.{itself, Takes}
use Rattle.gt_store.proofs.Forms.{num-leaves}
use Rattle.gt_store.proofs.LeafStored.{get-at}
use Rattle.gt_store.proofs.Whole.{same-list}
use Rattle.gt_graph.specs.Objects.{Object, blocks_of, bytes_in, elements_in}
use Rattle.gt_graph.specs.Places.{Placed}
use Rattle.gt_graph.specs.Good.{Heap}
use Rattle.gt_objects.specs.declared.objects.Objects.{Objects}
use Rattle.gt_objects.specs.Holding.{IsHeapOf}
use Rattle.gt_objects.proofs.Widths.{chars_take}
use Rattle.gt_elements.proofs.Found.{at, block, block_holds, block_room, each_fits, element_value, fits}

abbrev byte_type : Ty
byte_type = ty.Num (scalar.Int W1 false)

-- ---- trees that are bytes

byte_number : (n : ℤ) → IsTrue (has_room false 8 n) → (m : ℕ) × (n ≡ pos m) × (m < 256)
byte_number (pos m) room = (m, refl, ltb-true m 256 room)
byte_number (negsuc m) room = absurd (cc)

module _ {program : Program} {blocks : Blocks} {capacity : ℕ} {scope : Scope} where
  number_tree : (number : Scalar) {tree : Tree} → Fits program blocks capacity scope (ty.Num number) tree → (n : ℤ) × (tree ≡ Num n) × IsTrue (has_room (is_signed number) (bits_of number) n)
  number_tree number (Fits.number {n} room) = (n, refl, room)
  number_tree number (Fits.null p) = absurd (false≢true p)
  number_tree number (Fits.to m) = absurd m
  number_tree number (Fits.array e many each) = let o = outs-Num number in absurd (cc)
  number_tree number (Fits.tail e value le many each) = let o = outs-Num number in absurd (cc)

  byte_tree : {tree : Tree} → Fits program blocks capacity scope byte_type tree → (m : ℕ) × (tree ≡ Num (pos m)) × (m < 256)
  byte_tree fit =
      let n = number_tree (scalar.Int W1 false) fit in
      let m = byte_number n.0 n.2 in
      (m.0, n.1 ∙ ap Num m.1, m.2)

  bytes_long : {trees : Trees} → EachFits program blocks capacity scope byte_type trees → length (bytes_in trees) ≡ count trees
  bytes_long EachFits.no_more = refl
  bytes_long (EachFits.one_more {tree} {trees} fit each) = ap (λ t. length (bytes_in (And t trees))) (byte_tree fit).1 ∙ ap suc (bytes_long each)

  byte_there : {trees : Trees} → EachFits program blocks capacity scope byte_type trees → (k : ℕ) → k < count trees
      → (m : ℕ) × (tree_at trees k ≡ Some (Num (pos m))) × (m < 256) × (get_or (bytes_in trees) k 0 ≡ m)
  byte_there EachFits.no_more k low = absurd (let no : 1 ≤ 0 = omega (arith, low) in omega (arith, no))
  byte_there (EachFits.one_more {tree} {trees} fit each) zero low =
      let m = byte_tree fit in
      (m.0, ap (λ t. Some t) m.1, m.2, ap (λ t. get_or (bytes_in (And t trees)) 0 0) m.1)
  byte_there (EachFits.one_more {tree} {trees} fit each) (suc k) low =
      let m = byte_tree fit in
      let rest = byte_there each k (omega (arith, low)) in
      (rest.0, rest.1, rest.2, ap (λ t. get_or (bytes_in (And t trees)) (suc k) 0) m.1 ∙ rest.3)

  -- the last byte is a zero where the last tree is the number 0
  bytes_ended : {trees : Trees} → EachFits program blocks capacity scope byte_type trees → EndsInZero trees → (text : List ℕ) × (bytes_in trees ≡ text ++ 0 ∷ [])
  bytes_ended EachFits.no_more ends = absurd ends
  bytes_ended (EachFits.one_more fit EachFits.no_more) ends = ([], ap (λ t. bytes_in (And t End)) ends)
  bytes_ended (EachFits.one_more {tree} fit (EachFits.one_more {tree = next} {trees} fits each)) ends =
      let m = byte_tree fit in
      let rest = bytes_ended (EachFits.one_more fits each) ends in
      (m.0 ∷ rest.0, ap (λ t. bytes_in (And t (And next trees))) m.1 ∙ ap (λ xs. m.0 ∷ xs) rest.1)

-- ---- one byte

-- the byte that stands for a number is this number
byte_stands : (program : Program) (layouts : Layouts) → Settled program → IsLaidOut program layouts → (blocks : Blocks) (statics : Trees) (capacity m : ℕ) (bytes : List ℕ) → m < 256 → length bytes ≡ 1 → get_or bytes 0 0 < 256
    → IsValueOf program layouts blocks statics Chars capacity itself 0 bytes (Num (pos m)) → get_or bytes 0 0 ≡ m
byte_stands program layouts settled laid blocks statics capacity m bytes small long low value = same_bits 8 (get_or bytes 0 0) m low small bits
  where
    one : value.leaves ≡ leaf 0 8 (Number (pos m)) ∷ []
    one = num-leaves (scalar.Int W1 false) (pos m) value.leaves value.has

    placed : LieInOrder 0 8 value.leaves
    placed = value-placed program layouts settled laid blocks capacity (outside statics) byte_type 8 0 (Num (pos m)) value.leaves (IsTypeIn.of_block Chars) (chars_take program layouts capacity) value.fits value.has

    bits : (i : ℕ) → i < 8 → bit_of (get_or bytes 0 0) i ≡ bit_of m i
    bits i h =
        let at : (0 + i) / 8 ≡ 0 = omega (arith, h) in
        let rest : (0 + i) % 8 ≡ i = omega (arith, h) in
        let read = leaves-read itself 0 8 (leaf 0 8 (Number (pos m)) ∷ []) bytes (subst (LieInOrder 0 8) one placed) (omega (arith, long)) (subst (λ ls. Stand itself ls bytes) one value.stand) 0 (leaf 0 8 (Number (pos m))) (omega arith) i h in
        sym (ap (λ k. bit_of (get_or bytes k 0) ((0 + i) % 8)) at ∙ ap (bit_of (get_or bytes 0 0)) rest) ∙ read

-- ---- the characters of an object

module _ (program : Program) (layouts : Layouts) (settled : Settled program) (laid : IsLaidOut program layouts) (objects : Objects) (heap : Heap) (is : IsHeapOf program layouts objects heap) (space : IsSpace objects.space)
    (o : Object) (there : Contains heap.graph.objects o) (p : Placed) (lies : Contains heap.places.placed p) (named : p.id ≡ o.id) (chars : o.kind ≡ Chars) where
  takes : Takes program layouts o.capacity (element_type program o.kind) 1
  takes = subst (λ k. Takes program layouts o.capacity (element_type program k) 1) (sym chars) (chars_take program layouts o.capacity)

  abbrev trees : Trees
  trees = (block program layouts settled laid objects heap is space o there p lies named 1 takes).has.trees

  each : EachFits program (blocks_of heap.graph.objects) o.capacity (outside heap.graph.statics) byte_type trees
  each = subst (λ k. EachFits program (blocks_of heap.graph.objects) o.capacity (outside heap.graph.statics) (element_type program k) trees) chars (each_fits program layouts settled laid objects heap is space o there p lies named 1 takes)

  many : count trees ≡ o.count
  many =
      let fit = fits program layouts settled laid objects heap is space o there p lies named 1 takes in
      let row = (block program layouts settled laid objects heap is space o there p lies named 1 takes).has.row in
      let first = fit.row in
      let same : fit.trees ≡ trees = cc in
      ap count (sym same) ∙ fit.as_many

  pub chars_room : IsInside objects.space p.block.address o.count
  chars_room =
      let room = block_room program layouts settled laid objects heap is space p lies in
      let all = block_holds program layouts settled laid objects heap is space o there p lies named 1 takes in
      record { from_start = room.from_start; to_end = omega (arith, room.to_end, all) }

  byte_here : (k : ℕ) → k < count trees → get_or (bytes_in trees) k 0 ≡ get_or (bytes_at objects.space p.block.address o.count) k 0
  byte_here k low =
      let short : k < o.count = subst (λ n. k < n) many low in
      let mine = byte_there each k low in
      let tree = at program layouts settled laid objects heap is space o there p lies named 1 takes k short in
      let same : tree.0 ≡ Num (pos mine.0) = let first = tree.1 in let second = mine.1 in cc in
      let value = element_value program layouts settled laid objects heap is space o there p lies named 1 takes k short in
      let moved = subst (λ q. IsValueOf program layouts (blocks_of heap.graph.objects) heap.graph.statics q o.capacity itself 0 (bytes_at objects.space (p.block.address + 1 * k) 1) tree.0) chars value in
      let number = subst (IsValueOf program layouts (blocks_of heap.graph.objects) heap.graph.statics Chars o.capacity itself 0 (bytes_at objects.space (p.block.address + 1 * k) 1)) same moved in
      let room = chars_room in
      let inside : IsInside objects.space (p.block.address + 1 * k) 1 = record { from_start = omega (arith, room.from_start); to_end = omega (arith, room.to_end, short) } in
      let first = get-at objects.space (p.block.address + 1 * k) 1 0 (omega arith) in
      let below : get_or (bytes_at objects.space (p.block.address + 1 * k) 1) 0 0 < 256 = subst (λ n. n < 256) (sym first) (space.bytes (((p.block.address + 1 * k) - objects.space.start) + 0)) in
      let is_byte = byte_stands program layouts settled laid (blocks_of heap.graph.objects) heap.graph.statics o.capacity mine.0 (bytes_at objects.space (p.block.address + 1 * k) 1) mine.2
      (length-bytes_at objects.space (p.block.address + 1 * k) 1 inside) below number in
      let index : ((p.block.address + 1 * k) - objects.space.start) + 0 ≡ (p.block.address - objects.space.start) + k = omega (arith, room.from_start) in
      mine.3 ∙ sym is_byte ∙ first ∙ ap (λ n. get_or objects.space.bytes n 0) index ∙ sym (get-at objects.space p.block.address o.count k short)

  pub chars_are : bytes_in (elements_in o.value) ≡ bytes_at objects.space p.block.address o.count
  chars_are =
      let row = (block program layouts settled laid objects heap is space o there p lies named 1 takes).has.row in
      let long = bytes_long each in
      ap (λ v. bytes_in (elements_in v)) row
      ∙ same-list (bytes_in trees) (bytes_at objects.space p.block.address o.count) (long ∙ many ∙ sym (length-bytes_at objects.space p.block.address o.count chars_room))
      (λ k low. byte_here k (subst (λ n. k < n) long low))

  pub chars_many : length (bytes_in (elements_in o.value)) ≡ o.count
  chars_many =
      let row = (block program layouts settled laid objects heap is space o there p lies named 1 takes).has.row in
      ap (λ v. length (bytes_in (elements_in v))) row ∙ bytes_long each ∙ many

  pub chars_ended : (text : List ℕ) × (bytes_in (elements_in o.value) ≡ text ++ 0 ∷ [])
  chars_ended =
      let fit = fits program layouts settled laid objects heap is space o there p lies named 1 takes in
      let row = (block program layouts settled laid objects heap is space o there p lies named 1 takes).has.row in
      let first = fit.row in
      let same : fit.trees ≡ trees = cc in
      let ends : EndsInZero trees = subst (λ ts. EndsAs Chars ts) same (subst (λ k. EndsAs k fit.trees) chars fit.ends) in
      let last = bytes_ended each ends in
      (last.0, ap (λ v. bytes_in (elements_in v)) row ∙ last.1)
