-- What one written leaf makes of the bytes that stand for a value.
use Rattle.std.proofs.Common.{◌≡◌, ◌⊎◌, ℕ, zero, suc, ◌+◌, ◌-◌, ◌*◌, ◌/◌, ◌%◌, ◌<◌, ◌≤◌, Bool, true, false, ◌||◌, List, [], ◌∷◌, ◌++◌, length, get_or, drop, map, refl, ap, sym, subst, ◌∙◌, arith, inl, inr, Some, zero-add}
use Rattle.std.specs.Prelude.{All, slice_get}
use Rattle.std.specs.List.{list_any}
use Rattle.std.proofs.lemmas.List.{get_or-take, get_or-drop}
use Rattle.std.proofs.lemmas.List.Elements.{All-weaker}
use Rattle.gt_types.specs.declared.types.Ty.{Ty}
use Rattle.gt_types.specs.declared.program.Root.{Root}
use Rattle.gt_types.specs.declared.program.Program.{Program}
use Rattle.gt_types.specs.Settled.{Settled, IsRoot}
use Rattle.gt_layout.specs.declared.planes.FieldSpot.{FieldSpot}
use Rattle.gt_layout.specs.declared.planes.Layouts.{Layouts}
use Rattle.gt_layout.specs.Storages.{storage_of}
use Rattle.gt_layout.specs.Places.{begin_at}
use Rattle.gt_layout.specs.Planes.{IsLaidOut}
use Rattle.gt_space.specs.Range.{Range, IsInside, bytes_at, with_bytes}
use Rattle.gt_space.proofs.RangeLemmas.{length-bytes_at, length-with_bytes}
use Rattle.gt_tree.specs.Trees.{Tree, Rec, Trees, with_part, with_part_of, without_pointers}
use Rattle.gt_tree.specs.Blocks.{Blocks, element_type}
use Rattle.gt_tree.specs.Scopes.{Scope, outside}
use Rattle.gt_tree.specs.Fits.{Fits, StaticsFit, root_types}
use Rattle.gt_tree.specs.Leaves.{Leaf, bit_of, is_set_in, HasLeaves, FieldsHaveLeaves, Stand}
use Rattle.gt_tree.specs.LeafLaws.{IsTypeIn}
use Rattle.gt_tree.specs.FixedLaws.{bit_in, AreStaticsOf}
use Rattle.gt_tree.proofs.Chains.{Chain, Chain-le, Chain-from, Chain-append}
use Rattle.gt_tree.proofs.Known.{known, room-width}
use Rattle.gt_tree.proofs.OneList.{value-one_list}
use Rattle.gt_tree.proofs.Rooms.{Room, Laid, Laid-follow, room-plain}
use Rattle.gt_tree.proofs.Types.{Plain-root, bits_in}
use Rattle.gt_value.specs.declared.places.LeafContent.{LeafContent}
use Rattle.gt_value.specs.declared.places.Place.{Place}
use Rattle.gt_value.specs.Bytes.{itself}
use Rattle.gt_value.specs.declared.places.Holder.TheVariants as lies_in
use Rattle.gt_store.specs.Writing.{Writes}
use Rattle.gt_value.specs.Places.{Part, PartLies, StaticPartLies, IsPlaceOfPart}
use Rattle.gt_store.specs.Leaf.{width_of, bits_of, first_bit, IsLeafWritten, IsNewLeaf, IsSameBut, LeafIsStored, StaticLeafIsStored}
use Rattle.gt_store.proofs.BitLemmas.{below-or, get-inside, get-outside}
use Rattle.gt_store.proofs.OverlayLemmas.{any-append}
use Rattle.gt_store.proofs.Whole.{same-list}
use Rattle.gt_store.proofs.LeafParts.{seen, between-again, among, FieldAt, field-at, all-fit-at}
use Rattle.gt_store.proofs.LeafPlaces.{PartAt, part-at}
use Rattle.gt_store.proofs.LeafBits.{unset-low, unset-high, Chain-seen, tight, room-leaf, leaf-bits}

-- ---- bits of the bytes at an address

pub get-at : (r : Range) (address size k : ℕ) → k < size → get_or (bytes_at r address size) k 0 ≡ get_or r.bytes ((address - r.start) + k) 0
get-at r address size k lt = get_or-take size (drop (address - r.start) r.bytes) k 0 lt ∙ get_or-drop (address - r.start) r.bytes k 0

pub bit-at : (r : Range) (address size i : ℕ) → i < 8 * size → bit_in (bytes_at r address size) i ≡ bit_in r.bytes (8 * (address - r.start) + i)
bit-at r address size i lt =
    let k : (address - r.start) + i / 8 ≡ (8 * (address - r.start) + i) / 8 = omega arith in
    let b : i % 8 ≡ (8 * (address - r.start) + i) % 8 = omega arith in
    ap (λ n. bit_of n (i % 8)) (get-at r address size (i / 8) (omega (arith, lt)))
    ∙ ap (λ n. bit_of (get_or r.bytes n 0) (i % 8)) k
    ∙ ap (bit_of (get_or r.bytes ((8 * (address - r.start) + i) / 8) 0)) b

-- what is set in leaves of which some are replaced
set-among : (before here after : List Leaf) (i : ℕ)
    → list_any (is_set_in itself i) (before ++ (here ++ after)) ≡ (list_any (is_set_in itself i) before || (list_any (is_set_in itself i) here || list_any (is_set_in itself i) after))
set-among before here after i =
    any-append (is_set_in itself i) before (here ++ after) ∙ ap (λ b. list_any (is_set_in itself i) before || b) (any-append (is_set_in itself i) here after)

or-first : (a b : Bool) → b ≡ false → (a || b) ≡ a
or-first true b e = refl
or-first false b e = e

pub set-here : (before here after : List Leaf) (i : ℕ) → list_any (is_set_in itself i) before ≡ false → list_any (is_set_in itself i) after ≡ false
    → list_any (is_set_in itself i) (before ++ (here ++ after)) ≡ list_any (is_set_in itself i) here
set-here before here after i first second =
    set-among before here after i
    ∙ ap (λ b. b || (list_any (is_set_in itself i) here || list_any (is_set_in itself i) after)) first
    ∙ or-first (list_any (is_set_in itself i) here) (list_any (is_set_in itself i) after) second

pub set-elsewhere : (before here other after : List Leaf) (i : ℕ) → list_any (is_set_in itself i) here ≡ false → list_any (is_set_in itself i) other ≡ false
    → list_any (is_set_in itself i) (before ++ (here ++ after)) ≡ list_any (is_set_in itself i) (before ++ (other ++ after))
set-elsewhere before here other after i first second =
    set-among before here after i
    ∙ ap (λ b. list_any (is_set_in itself i) before || (b || list_any (is_set_in itself i) after)) (first ∙ sym second)
    ∙ sym (set-among before other after i)

-- ---- the bits of one leaf are written

module _ (old new : Range) (address size begin width bits : ℕ) (inside : IsInside old address size) (within : begin + width ≤ 8 * size) (w : Writes (8 * (address - old.start) + begin) width bits old new) where
  start : new.start ≡ old.start
  start = w.addresses.start

  inside-new : IsInside new address size
  inside-new = record { from_start = omega (arith, start, inside.from_start); to_end = omega (arith, start, w.addresses.len, inside.to_end) }

  new-bit : (i : ℕ) → i < 8 * size → bit_in (bytes_at new address size) i ≡ bit_in new.bytes (8 * (address - old.start) + i)
  new-bit i lt = bit-at new address size i lt ∙ ap (λ s. bit_in new.bytes (8 * (address - s) + i)) start

  module _ (before here other after : List Leaf) (low : Chain 0 before begin) (mid : Chain begin here (begin + width)) (also : Chain begin other (begin + width)) (high : Chain (begin + width) after (8 * size))
      (stand : Stand itself (before ++ (here ++ after)) (bytes_at old address size)) (are : (j : ℕ) → begin ≤ j → j < begin + width → list_any (is_set_in itself j) other ≡ bit_of bits (j - begin)) where
    apart-bit : (i : ℕ) → i < 8 * size → (i < begin) ⊎ (begin + width ≤ i) → list_any (is_set_in itself i) here ≡ false → list_any (is_set_in itself i) other ≡ false
        → bit_in (bytes_at new address size) i ≡ list_any (is_set_in itself i) (before ++ (other ++ after))
    apart-bit i lt out first second =
        new-bit i lt
        ∙ w.outside (8 * (address - old.start) + i) (elim out [ inl lo ↦ inl (omega (arith, lo)) | inr hi ↦ inr (omega (arith, hi)) ])
        ∙ sym (bit-at old address size i lt)
        ∙ stand i (omega (arith, lt, length-bytes_at old address size inside))
        ∙ set-elsewhere before here other after i first second

    written-bit : (i : ℕ) → i < 8 * size → begin ≤ i → i < begin + width → bit_in (bytes_at new address size) i ≡ list_any (is_set_in itself i) (before ++ (other ++ after))
    written-bit i lt lo hi =
        let k : (8 * (address - old.start) + i) - (8 * (address - old.start) + begin) ≡ i - begin = omega (arith, lo) in
        new-bit i lt
        ∙ w.inside (8 * (address - old.start) + i) (omega (arith, lo)) (omega (arith, hi))
        ∙ ap (bit_of bits) k
        ∙ sym (are i lo hi)
        ∙ sym (set-here before other after i (unset-high 0 before begin i low lo) (unset-low (begin + width) after (8 * size) i high hi))

    pub stand-new : Stand itself (before ++ (other ++ after)) (bytes_at new address size)
    stand-new i lt = go (below-or i begin) (below-or i (begin + width))
      where
        short : i < 8 * size
        short = omega (arith, lt, length-bytes_at new address size inside-new)

        go : (i < begin) ⊎ (begin ≤ i) → (i < begin + width) ⊎ (begin + width ≤ i) → bit_in (bytes_at new address size) i ≡ list_any (is_set_in itself i) (before ++ (other ++ after))
        go (inl lo) y = apart-bit i short (inl lo) (unset-low begin here (begin + width) i mid lo) (unset-low begin other (begin + width) i also lo)
        go (inr le) (inl hi) = written-bit i short le hi
        go (inr le) (inr hi) = apart-bit i short (inr hi) (unset-high begin here (begin + width) i mid hi) (unset-high begin other (begin + width) i also hi)

  long : length (bytes_at new address size) ≡ size
  long = length-bytes_at new address size inside-new

  at-start : old.start + (address - old.start) ≡ address
  at-start = omega (arith, inside.from_start)

  abbrev put : Range
  put = with_bytes old (old.start + (address - old.start)) (bytes_at new address size)

  fits-put : (address - old.start) + length (bytes_at new address size) ≤ length old.bytes
  fits-put = omega (arith, long, inside.from_start, inside.to_end)

  same-byte : (k : ℕ) → get_or new.bytes k 0 ≡ get_or put.bytes k 0
  same-byte k = go (below-or k (address - old.start)) (below-or k ((address - old.start) + size))
    where
      go : (k < address - old.start) ⊎ (address - old.start ≤ k) → (k < (address - old.start) + size) ⊎ ((address - old.start) + size ≤ k) → get_or new.bytes k 0 ≡ get_or put.bytes k 0
      go (inl lo) y = w.apart k (inl (omega (arith, lo))) ∙ sym (get-outside (address - old.start) old (bytes_at new address size) k fits-put (inl lo))
      go (inr le) (inl hi) =
          let back : (address - new.start) + (k - (address - old.start)) ≡ k = omega (arith, le, start) in
          sym (get-inside (address - old.start) old (bytes_at new address size) k fits-put le (omega (arith, hi, long))
          ∙ get-at new address size (k - (address - old.start)) (omega (arith, hi, le))
          ∙ ap (λ n. get_or new.bytes n 0) back)
      go (inr le) (inr hi) =
          w.apart k (inr (omega (arith, hi, within))) ∙ sym (get-outside (address - old.start) old (bytes_at new address size) k fits-put (inr (omega (arith, hi, long))))

  range-is : (a b : Range) → a.start ≡ b.start → a.bytes ≡ b.bytes → a ≡ b
  range-is a b s e = ap (λ n. let r : Range = record { start = n; bytes = a.bytes } in r) s ∙ ap (λ xs. let r : Range = record { start = b.start; bytes = xs } in r) e

  pub same-but : IsSameBut old address size new
  same-but =
      let as_long : length put.bytes ≡ length old.bytes =
      length-with_bytes old (old.start + (address - old.start)) (bytes_at new address size) (record { from_start = omega arith; to_end = omega (arith, long, inside.from_start, inside.to_end) }) in
      range-is new put start (same-list new.bytes put.bytes (w.addresses.len ∙ sym as_long) (λ k lt. same-byte k))
      ∙ ap (λ a. with_bytes old a (bytes_at new address size)) at-start

-- ---- a leaf of a value

-- the bits at the place of a leaf are those of the part
place-bit : (program : Program) (old : Range) (address size : ℕ) (p : Part) (place : Place) → IsInside old address size → IsPlaceOfPart program old address p place → first_bit old place ≡ 8 * (address - old.start) + p.bit
place-bit program old address size p place inside at = omega (arith, inside.from_start, at.address_is, at.bit_is)

-- a pointer that is not null is there only where the part is active
may-hide : (shown : Bool) (p : Part) (leaf : Tree) → (shown ≡ true) ⊎ (p.active ≡ false) → (p.active ≡ true) ⊎ (without_pointers leaf ≡ leaf) → (shown ≡ true) ⊎ (without_pointers leaf ≡ leaf)
may-hide shown p leaf (inl e) active = inl e
may-hide shown p leaf (inr off) (inl on) = absurd (cc)
may-hide shown p leaf (inr off) (inr bare) = inr bare

module _ (program : Program) (layouts : Layouts) (settled : Settled program) (laid : IsLaidOut program layouts) where
  -- the part that is written is a leaf of its own, wherever it lies
  module _ (blocks : Blocks) (capacity : ℕ) (old new : Range) (address size : ℕ) (p : Part) (place : Place) (is : LeafContent) (leaf : Tree) (scope other : Scope) (width : ℕ) (shown : Bool) (before here after next : List Leaf)
      (inside : IsInside old address size) (at : IsPlaceOfPart program old address p place) (fresh : IsNewLeaf p place is leaf) (written : IsLeafWritten place is old new)
      (has : HasLeaves program layouts.structures p.bit p.type p.tree here) (fits : Fits program blocks capacity scope p.type p.tree) (room : Room program layouts.structures capacity p.type width)
      (low : Chain 0 before p.bit) (high : Chain (p.bit + width) after (8 * size)) (shown_is : (shown ≡ true) ⊎ (p.active ≡ false))
      (now : HasLeaves program layouts.structures p.bit p.type leaf next) (fit : Fits program blocks capacity other p.type leaf) where
    narrow : width_of place.kind ≤ width
    narrow = room-leaf p.type place.kind width at.kind_is room

    ends : p.bit + width_of place.kind ≤ 8 * size
    ends = let le = Chain-le (p.bit + width) after (8 * size) high in omega (arith, narrow, le)

    writes : Writes (8 * (address - old.start) + p.bit) (width_of place.kind) (bits_of place.kind is) old new
    writes = subst (λ n. Writes n (width_of place.kind) (bits_of place.kind is) old new) (place-bit program old address size p place inside at) written

    pub leaf-same : IsSameBut old address size new
    leaf-same = same-but old new address size p.bit (width_of place.kind) (bits_of place.kind is) inside ends writes

    pub leaf-stands : Stand itself (before ++ (seen shown here ++ after)) (bytes_at old address size) → Stand itself (before ++ (seen shown next ++ after)) (bytes_at new address size)
    leaf-stands stand =
        stand-new old new address size p.bit (width_of place.kind) (bits_of place.kind is) inside ends writes before (seen shown here) (seen shown next) after low
        (Chain-seen shown p.bit here (p.bit + width_of place.kind) (tight has scope place.kind fits at.kind_is))
        (Chain-seen shown p.bit next (p.bit + width_of place.kind) (tight now other place.kind fit at.kind_is))
        (Chain-from (p.bit + width_of place.kind) (p.bit + width) after (8 * size) (omega (arith, narrow)) high) stand
        (λ j lo hi. leaf-bits now place.kind is shown j at.kind_is fresh.means (may-hide shown p leaf shown_is fresh.active) lo hi)

  pub leaf-stored : LeafIsStored program layouts
  leaf-stored blocks statics kind capacity size address old new value leaf path p place is held takes inside of lies at fresh fits written =
      let type = element_type program kind in
      let room = room-width program layouts.structures capacity type (8 * size) (known program settled (IsTypeIn.of_block kind)) takes in
      let q = part-at program layouts.structures blocks capacity settled laid.structures lies (outside statics) (8 * size) of.leaves of.has of.fits room in
      let fit = q.fit_in leaf (outside statics) fits in
      let next = value-one_list program layouts settled laid blocks capacity fit.0 p.type leaf p.bit fit.1 in
      let high : Chain (p.bit + q.width) q.after (8 * size) = subst (Chain (p.bit + q.width) q.after) (zero-add (8 * size)) q.high in (
        record {
          leaves = q.before ++ (seen q.shown next.0 ++ q.after);
          fits = fits;
          has = q.with_in leaf next.0 next.1;
          stand = leaf-stands blocks capacity old new address size p place is leaf q.scope fit.0 q.width q.shown q.before q.here q.after next.0 inside at fresh written q.has q.fits q.room q.low high q.shown_is next.1 fit.1
              (subst (λ ls. Stand itself ls (bytes_at old address size)) q.is of.stand);
        },
        leaf-same blocks capacity old new address size p place is leaf q.scope fit.0 q.width q.shown q.before q.here q.after next.0 inside at fresh written q.has q.fits q.room q.low high q.shown_is next.1 fit.1,
      )

  -- ---- a leaf of the static record

  roots-types : (roots : List Root) (i : ℕ) (r : Root) → slice_get roots i ≡ Some r → slice_get (map (λ x. x.ty) roots) i ≡ Some r.ty
  roots-types [] i r e = absurd (cc)
  roots-types (x ∷ xs) zero r e = let same : x ≡ r = cc in ap (λ y. Some y.ty) same
  roots-types (x ∷ xs) (suc i) r e = roots-types xs i r e

  roots-laid : Laid program layouts.structures 0 0 (map (λ r. r.ty) program.roots) layouts.statics.fields (8 * layouts.statics.size)
  roots-laid =
      let planes = layouts.structures in
      let each : All (λ (r : Root). Room program planes 0 r.ty (bits_in (storage_of planes r.ty))) program.roots =
      All-weaker (IsRoot program) (λ (r : Root). Room program planes 0 r.ty (bits_in (storage_of planes r.ty)))
      (λ r h. room-plain program planes 0 r.ty (Plain-root program r.ty h.shape (λ n held t. (h.whole n held).1 t))) program.roots settled.roots in
      Laid-follow (λ (r : Root). r.ty) program.roots layouts.statics.fields 0 (8 * layouts.statics.size) laid.statics.places laid.statics.size.room.inside (omega arith) each

  rec-same : (a b : Trees) → Rec a ≡ Rec b → a ≡ b
  rec-same a b e = cc

  -- the part that is written lies in the value of one root
  module _ (blocks : Blocks) (old new : Range) (values : Trees) (i : ℕ) (rest : List ℕ) (leaf : Tree) (p : Part) (place : Place) (is : LeafContent) (type : Ty) (spot : FieldSpot) (tree : Tree)
      (inside : IsInside old old.start layouts.statics.size) (are : AreStaticsOf program layouts blocks itself (bytes_at old old.start layouts.statics.size) values)
      (at : IsPlaceOfPart program old old.start p place) (fresh : IsNewLeaf p place is leaf) (fits : StaticsFit program blocks (with_part_of values i rest leaf)) (written : IsLeafWritten place is old new)
      (f : FieldAt program layouts.structures blocks 0 (outside values) 0 0 (8 * layouts.statics.size) (root_types program) layouts.statics.fields values are.leaves i type spot tree)
      (q : PartAt program layouts.structures blocks 0 (0 + begin_at spot) f.width type tree rest p f.inner)
      (other : Scope) (next : List Leaf) (now : HasLeaves program layouts.structures p.bit p.type leaf next) (fit : Fits program blocks 0 other p.type leaf) where
    static-low : Chain 0 (f.before ++ q.before) p.bit
    static-low = Chain-append 0 f.before (0 + begin_at spot) q.before p.bit f.low q.low

    static-high : Chain (p.bit + q.width) (q.after ++ f.after) (8 * layouts.statics.size)
    static-high =
        subst (Chain (p.bit + q.width) (q.after ++ f.after)) (zero-add (8 * layouts.statics.size))
        (Chain-append (p.bit + q.width) q.after ((0 + begin_at spot) + f.width) f.after (0 + 8 * layouts.statics.size) q.high f.high)

    static-have : FieldsHaveLeaves program layouts.structures 0 (root_types program) layouts.statics.fields (with_part_of values i rest leaf) ((f.before ++ q.before) ++ (seen q.shown next ++ (q.after ++ f.after)))
    static-have =
        subst (FieldsHaveLeaves program layouts.structures 0 (root_types program) layouts.statics.fields (with_part_of values i rest leaf)) (between-again f.before q.before (seen q.shown next) q.after f.after)
        (f.back rest leaf (q.before ++ (seen q.shown next ++ q.after)) (q.with_in leaf next now))

    static-stand : Stand itself ((f.before ++ q.before) ++ (seen q.shown next ++ (q.after ++ f.after))) (bytes_at new old.start layouts.statics.size)
    static-stand =
        leaf-stands blocks 0 old new old.start layouts.statics.size p place is leaf q.scope other q.width q.shown (f.before ++ q.before) q.here (q.after ++ f.after) next inside at fresh written q.has q.fits q.room static-low static-high q.shown_is now fit
        (subst (λ ls. Stand itself ls (bytes_at old old.start layouts.statics.size)) (among are.leaves f.before f.inner f.after q.before (seen q.shown q.here) q.after f.is q.is) are.stand)

    root-stored : AreStaticsOf program layouts blocks itself (bytes_at new old.start layouts.statics.size) (with_part_of values i rest leaf) × IsSameBut old old.start layouts.statics.size new
    root-stored = (
      record {
        leaves = (f.before ++ q.before) ++ (seen q.shown next ++ (q.after ++ f.after));
        fit = fits;
        have = static-have;
        stand = static-stand;
      },
      leaf-same blocks 0 old new old.start layouts.statics.size p place is leaf q.scope other q.width q.shown (f.before ++ q.before) q.here (q.after ++ f.after) next inside at fresh written q.has q.fits q.room static-low static-high q.shown_is now fit,
    )

  static-stored : (blocks : Blocks) (old new : Range) (values : Trees) (path : List ℕ) (leaf : Tree) (p : Part) (place : Place) (is : LeafContent) → IsInside old old.start layouts.statics.size
      → AreStaticsOf program layouts blocks itself (bytes_at old old.start layouts.statics.size) values → (lies : StaticPartLies program layouts.structures layouts.statics.fields values path p) → IsPlaceOfPart program old old.start p place
      → IsNewLeaf p place is leaf → StaticsFit program blocks (with_part_of values lies.i lies.rest leaf) → IsLeafWritten place is old new
      → AreStaticsOf program layouts blocks itself (bytes_at new old.start layouts.statics.size) (with_part_of values lies.i lies.rest leaf) × IsSameBut old old.start layouts.statics.size new
  static-stored blocks old new values path leaf p place is inside are lies at fresh fits written =
      let planes = layouts.structures in
      let type = lies.r.ty in
      let typed = roots-types program.roots lies.i lies.r lies.root in
      let f = field-at program planes blocks 0 settled laid.structures are.have (outside values) 0 (8 * layouts.statics.size) lies.i type lies.spot lies.tree typed lies.spot_is lies.there are.fit roots-laid in
      let moved = subst (λ n. PartLies program planes (outside values) (lies_in.Root lies.i) true n type lies.tree lies.rest p) (sym (zero-add (begin_at lies.spot))) lies.lies in
      let q = part-at program planes blocks 0 settled laid.structures moved (outside values) f.width f.inner f.has f.fits f.room in
      let fit = q.fit_in leaf (outside (with_part_of values lies.i lies.rest leaf)) (all-fit-at (root_types program) values lies.i lies.rest leaf type lies.tree typed lies.there fits) in
      let next = value-one_list program layouts settled laid blocks 0 fit.0 p.type leaf p.bit fit.1 in
      root-stored blocks old new values lies.i lies.rest leaf p place is type lies.spot lies.tree inside are at fresh fits written f q fit.0 next.0 next.1 fit.1

  pub static-leaf-stored : StaticLeafIsStored program layouts
  static-leaf-stored blocks old new values others leaf path p place is inside are lies at fresh same fits written =
      let now : with_part_of values lies.i lies.rest leaf ≡ others = rec-same (with_part_of values lies.i lies.rest leaf) others (ap (λ w. with_part (Rec values) w leaf) (sym lies.path_is) ∙ same) in
      subst (λ t. AreStaticsOf program layouts blocks itself (bytes_at new old.start layouts.statics.size) t × IsSameBut old old.start layouts.statics.size new) now
      (static-stored blocks old new values path leaf p place is inside are lies at fresh (subst (StaticsFit program blocks) (sym now) fits) written)
