-- The block in which one element has another value stands.
use Rattle.std.proofs.Common.{◌≡◌, ◌⊎◌, ℕ, zero, suc, ◌+◌, ◌-◌, ◌*◌, ◌/◌, ◌%◌, ◌<◌, ◌≤◌, false, List, ◌++◌, length, Some, refl, ap, sym, subst, ◌∙◌, arith, inl, inr, zero-add}
use Rattle.std.specs.Prelude.{[]}
use Rattle.std.specs.List.{list_any}
use Rattle.gt_types.specs.declared.types.Ty.{Ty}
use Rattle.gt_types.specs.declared.program.Program.{Program}
use Rattle.gt_types.specs.Settled.{Settled}
use Rattle.gt_layout.specs.declared.planes.Layouts.{Layouts}
use Rattle.gt_layout.specs.Planes.{IsLaidOut}
use Rattle.gt_space.specs.Range.{Range, IsInside, bytes_at, with_bytes}
use Rattle.gt_space.proofs.RangeLemmas.{length-bytes_at, length-with_bytes}
use Rattle.gt_tree.specs.Trees.{Tree, Trees, End, And, count, tree_at, with_part_of}
use Rattle.gt_tree.specs.Blocks.{Kind, Blocks, element_type}
use Rattle.gt_tree.specs.Scopes.{Scope, outside}
use Rattle.gt_tree.specs.Fits.{Fits, EachFits}
use Rattle.gt_tree.specs.Leaves.{Leaf, bit_of, is_set_in, HasLeaves, EachHasLeaves, Stand}
use Rattle.gt_tree.specs.FixedLaws.{bit_in, IsValueOf}
use Rattle.gt_tree.proofs.Chains.{Chain}
use Rattle.gt_tree.proofs.Fitting.{fits-one}
use Rattle.gt_tree.proofs.Ordered.{chain}
use Rattle.gt_value.specs.Bytes.{itself, Takes}
use Rattle.gt_store.proofs.BitLemmas.{below-or, get-outside}
use Rattle.gt_store.proofs.LeafBits.{unset-low, unset-high}
use Rattle.gt_store.proofs.LeafParts.{EachAt}
use Rattle.gt_store.proofs.LeafStored.{bit-at, set-elsewhere, set-here}
use Rattle.gt_store.proofs.Whole.{shifted, has-shifted, set-shifted}
use Rattle.gt_elements.proofs.Among.{at, moved_bit, room}

-- ---- values

pub count_with : (trees : Trees) (i : ℕ) (other : Tree) → count (with_part_of trees i [] other) ≡ count trees
count_with End i other = refl
count_with (And tree trees) zero other = refl
count_with (And tree trees) (suc i) other = ap suc (count_with trees i other)

module _ {program : Program} {blocks : Blocks} {capacity : ℕ} {scope : Scope} {type : Ty} where
  pub each_with : (trees : Trees) (i : ℕ) (other : Tree) → EachFits program blocks capacity scope type trees → Fits program blocks capacity scope type other
      → EachFits program blocks capacity scope type (with_part_of trees i [] other)
  each_with End i other each fit = each
  each_with (And tree trees) zero other each fit = EachFits.one_more fit (fits-one type tree trees each).1
  each_with (And tree trees) (suc i) other each fit = let parts = fits-one type tree trees each in EachFits.one_more parts.0 (each_with trees i other parts.1 fit)

-- ---- bits

-- where other bytes were written, a bit is as before
bit_outside : (r : Range) (address : ℕ) (form : List ℕ) (j : ℕ) → IsInside r address (length form) → (j < 8 * (address - r.start)) ⊎ (8 * (address - r.start) + 8 * length form ≤ j)
    → bit_in (with_bytes r address form).bytes j ≡ bit_in r.bytes j
bit_outside r address form j inside out =
    let at : r.start + (address - r.start) ≡ address = omega (arith, inside.from_start) in
    let room : (address - r.start) + length form ≤ length r.bytes = omega (arith, inside.from_start, inside.to_end) in
    let apart : (j / 8 < address - r.start) ⊎ ((address - r.start) + length form ≤ j / 8) = elim out [ inl low ↦ inl (omega (arith, low)) | inr high ↦ inr (omega (arith, high)) ] in
    ap (λ a. bit_in (with_bytes r a form).bytes j) (sym at) ∙ ap (λ n. bit_of n (j % 8)) (get-outside (address - r.start) r form (j / 8) room apart)

module _ (program : Program) (layouts : Layouts) (settled : Settled program) (laid : IsLaidOut program layouts) (blocks : Blocks) (statics : Trees) (kind : Kind) (capacity size i : ℕ) (trees : Trees) (tree : Tree) (leaves : List Leaf)
    (takes : Takes program layouts capacity (element_type program kind) size) (each : EachHasLeaves program layouts.structures (8 * size) 0 (element_type program kind) trees leaves)
    (fit : EachFits program blocks capacity (outside statics) (element_type program kind) trees) (there : tree_at trees i ≡ Some tree)
    (old new : Range) (address long : ℕ) (inside : IsInside old address long) (within : size * i + size ≤ long) (form : List ℕ) (sized : length form ≡ size) (put : new ≡ with_bytes old (address + size * i) form)
    (other : Tree) (value : IsValueOf program layouts blocks statics kind capacity itself 0 (bytes_at new (address + size * i) size) other) (stand : Stand itself leaves (bytes_at old address long)) where
  abbrev type : Ty
  type = element_type program kind

  abbrev begin : ℕ
  begin = 0 + i * (8 * size)

  abbrev among : EachAt program layouts.structures blocks capacity (outside statics) (8 * size) 0 type trees leaves i begin tree
  among = at program layouts settled laid blocks statics kind capacity size i trees tree leaves takes each fit there

  abbrev mine : List Leaf
  mine = shifted begin value.leaves

  mine_has : HasLeaves program layouts.structures begin type other mine
  mine_has = subst (λ n. HasLeaves program layouts.structures n type other mine) (zero-add begin) (has-shifted begin value.has)

  abbrev after : List Leaf
  after = among.before ++ (mine ++ among.after)

  pub each_after : EachHasLeaves program layouts.structures (8 * size) 0 type (with_part_of trees i [] other) after
  each_after = among.back [] other mine mine_has

  pub fit_after : EachFits program blocks capacity (outside statics) type (with_part_of trees i [] other)
  fit_after = each_with trees i other fit value.fits

  wide : Chain begin among.inner (begin + 8 * size)
  wide = chain program layouts.structures blocks capacity settled laid.structures among.has (outside statics) (8 * size) among.fits (room program layouts settled laid blocks statics kind capacity size i trees tree leaves takes each fit there)

  mine_wide : Chain begin mine (begin + 8 * size)
  mine_wide = chain program layouts.structures blocks capacity settled laid.structures mine_has (outside statics) (8 * size) value.fits (room program layouts settled laid blocks statics kind capacity size i trees tree leaves takes each fit there)

  put_inside : IsInside old (address + size * i) (length form)
  put_inside = record { from_start = omega (arith, inside.from_start); to_end = omega (arith, inside.to_end, within, sized) }

  start : new.start ≡ old.start
  start = ap (λ r. r.start) put

  pub inside_after : IsInside new address long
  inside_after =
      let same : length new.bytes ≡ length old.bytes = ap (λ r. length r.bytes) put ∙ length-with_bytes old (address + size * i) form put_inside in
      record { from_start = omega (arith, inside.from_start, start); to_end = omega (arith, inside.to_end, start, same) }

  outside_bit : (j : ℕ) → j < 8 * long → (j < begin) ⊎ (begin + 8 * size ≤ j) → list_any (is_set_in itself j) among.inner ≡ false → list_any (is_set_in itself j) mine ≡ false
      → bit_in (bytes_at new address long) j ≡ list_any (is_set_in itself j) after
  outside_bit j low out first second =
      let apart : (8 * (address - old.start) + j < 8 * ((address + size * i) - old.start)) ⊎ (8 * ((address + size * i) - old.start) + 8 * length form ≤ 8 * (address - old.start) + j) =
      elim out [ inl lo ↦ inl (omega (arith, lo, inside.from_start)) | inr hi ↦ inr (omega (arith, hi, inside.from_start, sized)) ] in
      bit-at new address long j low
      ∙ ap (λ s. bit_in new.bytes (8 * (address - s) + j)) start
      ∙ ap (λ r. bit_in r.bytes (8 * (address - old.start) + j)) put
      ∙ bit_outside old (address + size * i) form (8 * (address - old.start) + j) put_inside apart
      ∙ sym (bit-at old address long j low)
      ∙ stand j (omega (arith, low, length-bytes_at old address long inside))
      ∙ ap (list_any (is_set_in itself j)) among.is
      ∙ set-elsewhere among.before among.inner mine among.after j first second

  inside_bit : (j : ℕ) → j < 8 * long → begin ≤ j → j < begin + 8 * size → bit_in (bytes_at new address long) j ≡ list_any (is_set_in itself j) after
  inside_bit j low from below =
      let back : (j - begin) + begin ≡ j = omega (arith, from) in
      let short : j - begin < 8 * size = omega (arith, from, below) in
      let room : IsInside new (address + size * i) size = record { from_start = omega (arith, inside_after.from_start); to_end = omega (arith, inside_after.to_end, within) } in
      sym (moved_bit program layouts settled laid blocks statics kind capacity size i trees tree leaves takes each fit there new address long inside_after within (j - begin) short ∙ ap (bit_in (bytes_at new address long)) back)
      ∙ value.stand (j - begin) (omega (arith, short, length-bytes_at new (address + size * i) size room))
      ∙ sym (set-shifted begin (j - begin) value.leaves)
      ∙ ap (λ n. list_any (is_set_in itself n) mine) back
      ∙ sym (set-here among.before mine among.after j (unset-high 0 among.before begin j among.low from) (unset-low (begin + 8 * size) among.after (0 + count trees * (8 * size)) j among.high below))

  -- all its bytes stand for it
  pub stand_after : Stand itself after (bytes_at new address long)
  stand_after j low = go (below-or j begin) (below-or j (begin + 8 * size))
    where
      short : j < 8 * long
      short = omega (arith, low, length-bytes_at new address long inside_after)

      go : (j < begin) ⊎ (begin ≤ j) → (j < begin + 8 * size) ⊎ (begin + 8 * size ≤ j) → bit_in (bytes_at new address long) j ≡ list_any (is_set_in itself j) after
      go (inl lo) y = outside_bit j short (inl lo) (unset-low begin among.inner (begin + 8 * size) j wide lo) (unset-low begin mine (begin + 8 * size) j mine_wide lo)
      go (inr le) (inl hi) = inside_bit j short le hi
      go (inr le) (inr hi) = outside_bit j short (inr hi) (unset-high begin among.inner (begin + 8 * size) j wide hi) (unset-high begin mine (begin + 8 * size) j mine_wide hi)
