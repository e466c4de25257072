-- One element among those of a block.
use Rattle.std.proofs.Common.{◌≡◌, ℕ, zero, suc, ◌+◌, ◌-◌, ◌*◌, ◌<◌, ◌≤◌, List, Some, refl, ap, sym, subst, ◌∙◌, arith, zero-add}
use Rattle.std.specs.Prelude.{[]}
use Rattle.std.specs.List.{list_any}
use Rattle.gt_types.specs.declared.types.Ty.{Ty}
use Rattle.gt_types.specs.declared.program.Program.{Program}
use Rattle.gt_types.specs.Settled.{Settled}
use Rattle.gt_layout.specs.declared.planes.Layouts.{Layouts}
use Rattle.gt_layout.specs.Planes.{IsLaidOut}
use Rattle.gt_space.specs.Range.{Range, IsInside, bytes_at}
use Rattle.gt_space.proofs.RangeLemmas.{length-bytes_at}
use Rattle.gt_tree.specs.Trees.{Tree, Trees, End, And, count, tree_at, part_of}
use Rattle.gt_tree.specs.Blocks.{Kind, Nodes, Pointers, Strings, Chars, Raw, Blocks, element_type}
use Rattle.gt_tree.specs.Scopes.{outside}
use Rattle.gt_tree.specs.Fits.{Fits, EachFits}
use Rattle.gt_tree.specs.Leaves.{Leaf, is_set_in, HasLeaves, EachHasLeaves, Stand}
use Rattle.gt_tree.specs.LeafLaws.{IsTypeIn, IsWidth}
use Rattle.gt_tree.specs.FixedLaws.{bit_in, IsValueOf}
use Rattle.gt_tree.proofs.Known.{known, room-width}
use Rattle.gt_tree.proofs.OneList.{value-one_list}
use Rattle.gt_tree.proofs.Rooms.{Room}
use Rattle.gt_value.specs.Bytes.{itself, Takes}
use Rattle.gt_store.proofs.LeafBits.{unset-low, unset-high}
use Rattle.gt_store.proofs.LeafParts.{EachAt, each-at}
use Rattle.gt_store.proofs.LeafStored.{bit-at, set-here}
use Rattle.gt_store.proofs.Whole.{shifted, has-shifted, set-shifted}

-- a place below the count has a value
pub tree_there : (trees : Trees) (i : ℕ) → i < count trees → (tree : Tree) × (tree_at trees i ≡ Some tree) × (part_of trees i [] ≡ Some tree)
tree_there End i low = absurd (let no : 1 ≤ 0 = omega (arith, low) in omega (arith, no))
tree_there (And tree trees) zero low = (tree, refl, refl)
tree_there (And tree trees) (suc i) low = tree_there trees i (omega (arith, low))

-- the width of elements is a number of bytes
pub whole_width : (program : Program) (layouts : Layouts) (kind : Kind) (capacity width : ℕ) → IsWidth program layouts.structures capacity (element_type program kind) width → (size : ℕ) × (width ≡ 8 * size)
whole_width program layouts (Nodes node) capacity width wide = (wide.0, wide.2)
whole_width program layouts (Pointers node) capacity width wide = (_, wide)
whole_width program layouts Strings capacity width wide = (_, wide)
whole_width program layouts Chars capacity width wide = (_, wide)
whole_width program layouts Raw capacity width wide = (_, wide)

module _ (program : Program) (layouts : Layouts) (settled : Settled program) (laid : IsLaidOut program layouts) (blocks : Blocks) (statics : Trees) (kind : Kind) (capacity size i : ℕ) (trees : Trees) (tree : Tree) (leaves : List Leaf)
    (takes : Takes program layouts capacity (element_type program kind) size) (each : EachHasLeaves program layouts.structures (8 * size) 0 (element_type program kind) trees leaves)
    (fit : EachFits program blocks capacity (outside statics) (element_type program kind) trees) (there : tree_at trees i ≡ Some tree) where
  abbrev type : Ty
  type = element_type program kind

  abbrev begin : ℕ
  begin = 0 + i * (8 * size)

  pub room : Room program layouts.structures capacity type (8 * size)
  room = room-width program layouts.structures capacity type (8 * size) (known program settled (IsTypeIn.of_block kind)) takes

  pub at : EachAt program layouts.structures blocks capacity (outside statics) (8 * size) 0 type trees leaves i begin tree
  at = each-at program layouts.structures blocks capacity settled laid.structures each (outside statics) i tree there fit room

  pub its_fit : Fits program blocks capacity (outside statics) type tree
  its_fit = at.fits

  mine : (ls : List Leaf) × HasLeaves program layouts.structures 0 type tree ls
  mine = let one = value-one_list program layouts settled laid blocks capacity (outside statics) type tree 0 at.fits in (one.0, one.1)

  inner_is : at.inner ≡ shifted begin mine.0
  inner_is =
      let one = value-one_list program layouts settled laid blocks capacity (outside statics) type tree begin at.fits in
      one.2 at.inner at.has ∙ sym (one.2 (shifted begin mine.0) (subst (λ n. HasLeaves program layouts.structures n type tree (shifted begin mine.0)) (zero-add begin) (has-shifted begin mine.1)))

  -- the bits of the element are those of its leaves
  its_bit : (j : ℕ) → j < 8 * size → list_any (is_set_in itself (j + begin)) leaves ≡ list_any (is_set_in itself j) mine.0
  its_bit j low =
      ap (list_any (is_set_in itself (j + begin))) at.is
      ∙ set-here at.before at.inner at.after (j + begin) (unset-high 0 at.before begin (j + begin) at.low (omega arith))
      (unset-low (begin + 8 * size) at.after (0 + count trees * (8 * size)) (j + begin) at.high (omega (arith, low)))
      ∙ ap (list_any (is_set_in itself (j + begin))) inner_is
      ∙ set-shifted begin j mine.0

  module _ (range : Range) (address long : ℕ) (inside : IsInside range address long) (within : size * i + size ≤ long) where
    pub its_room : IsInside range (address + size * i) size
    its_room = record { from_start = omega (arith, inside.from_start); to_end = omega (arith, inside.to_end, within) }

    pub moved_bit : (j : ℕ) → j < 8 * size → bit_in (bytes_at range (address + size * i) size) j ≡ bit_in (bytes_at range address long) (j + begin)
    moved_bit j low =
        let same : 8 * ((address + size * i) - range.start) + j ≡ 8 * (address - range.start) + (j + begin) = omega (arith, inside.from_start) in
        bit-at range (address + size * i) size j low
        ∙ ap (bit_in range.bytes) same
        ∙ sym (bit-at range address long (j + begin) (omega (arith, low, within)))

    its_leaves : Stand itself leaves (bytes_at range address long) → Stand itself mine.0 (bytes_at range (address + size * i) size)
    its_leaves stand j low =
        let short : j < 8 * size = omega (arith, low, length-bytes_at range (address + size * i) size its_room) in
        moved_bit j short ∙ stand (j + begin) (omega (arith, short, within, length-bytes_at range address long inside)) ∙ its_bit j short

    -- its bytes stand for it
    pub its_value : Stand itself leaves (bytes_at range address long) → IsValueOf program layouts blocks statics kind capacity itself 0 (bytes_at range (address + size * i) size) tree
    its_value stand = record { leaves = mine.0; fits = at.fits; has = mine.1; stand = its_leaves stand }
