-- A stored value is what the bytes at its address stand for, and all others are as before.
use Rattle.std.proofs.Common.{◌≡◌, ◌⊎◌, ℕ, zero, suc, ◌+◌, ◌-◌, ◌*◌, ◌/◌, ◌%◌, ◌<◌, ◌≤◌, Bool, true, false, cond, ◌&&◌, ◌||◌, nat_le, nat_lt, List, [], ◌∷◌, ◌++◌, length, get_or, replicate, map, refl, ap, sym, subst, ◌∙◌, arith, inl, inr, Some, None}
use Rattle.std.specs.Prelude.{All, pos, ◌==◌}
use Rattle.std.specs.List.{filter, list_any}
use Rattle.std.proofs.lemmas.Bool.{le-leb, lt-leb, lt-ltb, le-ltb}
use Rattle.std.proofs.lemmas.Nat.Bits.{bit_at-zero}
use Rattle.std.proofs.lemmas.List.Elements.{All-head, All-tail}
use Rattle.gt_types.specs.declared.types.Ty.{Ty}
use Rattle.gt_types.specs.declared.types.Ty.TheVariants as ty
use Rattle.gt_types.specs.declared.program.Program.{Program}
use Rattle.gt_layout.specs.declared.planes.Plane.{Plane}
use Rattle.gt_layout.specs.declared.planes.FieldSpot.{FieldSpot}
use Rattle.gt_layout.specs.Places.{begin_at}
use Rattle.gt_space.specs.Range.{Range, IsInside, with_bytes}
use Rattle.gt_space.proofs.RangeLemmas.{length-with_bytes}
use Rattle.gt_tree.specs.Trees.{Tree, Alt, Trees, And}
use Rattle.gt_tree.specs.Leaves.{Leaf, Content, leaf, Number, Pointer, byte_leaves, is_number, bit_of, content_bits, is_set_in, HasLeaves, FieldsHaveLeaves, EachHasLeaves}
use Rattle.gt_tree.specs.LeafLaws.{AreBytesOf}
use Rattle.gt_tree.specs.FixedLaws.{bit_in}
use Rattle.gt_value.specs.Bytes.{itself}
use Rattle.gt_store.specs.Overlays.{covers, Overlays, is_written, written, Rises}
use Rattle.gt_store.specs.Writing.{AreSmall}
use Rattle.gt_tree.proofs.FixedBits.{same_bits}
use Rattle.gt_store.proofs.BitLemmas.{below-or, get-inside, get-outside, small-with}
use Rattle.gt_store.proofs.OverlayLemmas.{none-set, any-low, any-high}

-- ---- leaves further on

abbrev pub shifted : ℕ → List Leaf → List Leaf
shifted d ls = map (λ l. leaf (l.at + d) l.width l.content) ls

shifted-append : (d : ℕ) (ls ms : List Leaf) → shifted d (ls ++ ms) ≡ shifted d ls ++ shifted d ms
shifted-append d [] ms = refl
shifted-append d (l ∷ ls) ms = ap (λ xs. leaf (l.at + d) l.width l.content ∷ xs) (shifted-append d ls ms)

shifted-bytes : (d at : ℕ) (bytes : List ℕ) → byte_leaves (at + d) bytes ≡ shifted d (byte_leaves at bytes)
shifted-bytes d at [] = refl
shifted-bytes d at (byte ∷ bytes) =
    let e : (at + d) + 8 ≡ (at + 8) + d = omega arith in
    ap (λ xs. leaf (at + d) 8 (Number (pos byte)) ∷ xs) (ap (λ n. byte_leaves n bytes) e ∙ shifted-bytes d (at + 8) bytes)

shifted-filter : (d : ℕ) (ls : List Leaf) → filter is_number (shifted d ls) ≡ shifted d (filter is_number ls)
shifted-filter d [] = refl
shifted-filter d (l ∷ ls) = go (is_number l) (shifted-filter d ls)
  where
    go : (b : Bool) → filter is_number (shifted d ls) ≡ shifted d (filter is_number ls)
        → cond b (leaf (l.at + d) l.width l.content ∷ filter is_number (shifted d ls)) (filter is_number (shifted d ls)) ≡ shifted d (cond b (l ∷ filter is_number ls) (filter is_number ls))
    go true e = ap (λ xs. leaf (l.at + d) l.width l.content ∷ xs) e
    go false e = e

module _ {program : Program} {planes : List Plane} (d : ℕ) where
  mutual
    pub has-shifted : {at : ℕ} {type : Ty} {tree : Tree} {ls : List Leaf} → HasLeaves program planes at type tree ls → HasLeaves program planes (at + d) type tree (shifted d ls)
    has-shifted HasLeaves.number = HasLeaves.number
    has-shifted HasLeaves.bits = HasLeaves.bits
    has-shifted (HasLeaves.opaque {at} {size} {align} {bytes}) = subst (HasLeaves program planes (at + d) (ty.Opaque size align) _) (shifted-bytes d at bytes) HasLeaves.opaque
    has-shifted (HasLeaves.null p) = HasLeaves.null p
    has-shifted (HasLeaves.to p) = HasLeaves.to p
    has-shifted (HasLeaves.struct h u g fields) = HasLeaves.struct h u g (fields-shifted fields)
    has-shifted (HasLeaves.member h u g inner) = HasLeaves.member h u g (has-shifted inner)
    has-shifted (HasLeaves.common {at} {node} {desc} {tree} {leaves} h u c inner) =
        subst (HasLeaves program planes (at + d) (ty.Node node desc) (Alt None tree)) (shifted-filter d leaves) (HasLeaves.common h u c (has-shifted inner))
    has-shifted (HasLeaves.nothing h u n) = HasLeaves.nothing h u n
    has-shifted (HasLeaves.array e each) = HasLeaves.array e (each-shifted each)
    has-shifted (HasLeaves.tail e each) = HasLeaves.tail e (each-shifted each)

    fields-shifted : {at : ℕ} {types : List Ty} {spots : List FieldSpot} {trees : Trees} {ls : List Leaf} → FieldsHaveLeaves program planes at types spots trees ls
        → FieldsHaveLeaves program planes (at + d) types spots trees (shifted d ls)
    fields-shifted FieldsHaveLeaves.none = FieldsHaveLeaves.none
    fields-shifted (FieldsHaveLeaves.more {at} {type} {types} {s} {spots} {tree} {trees} {first} {rest} inner others) =
        let e : (at + begin_at s) + d ≡ (at + d) + begin_at s = omega arith in
        subst (FieldsHaveLeaves program planes (at + d) (type ∷ types) (s ∷ spots) (And tree trees)) (sym (shifted-append d first rest))
        (FieldsHaveLeaves.more (subst (λ n. HasLeaves program planes n type tree (shifted d first)) e (has-shifted inner)) (fields-shifted others))

    each-shifted : {stride at : ℕ} {type : Ty} {trees : Trees} {ls : List Leaf} → EachHasLeaves program planes stride at type trees ls → EachHasLeaves program planes stride (at + d) type trees (shifted d ls)
    each-shifted EachHasLeaves.no_more = EachHasLeaves.no_more
    each-shifted (EachHasLeaves.one_more {stride} {at} {type} {tree} {trees} {first} {rest} inner others) =
        let e : (at + stride) + d ≡ (at + d) + stride = omega arith in
        subst (EachHasLeaves program planes stride (at + d) type (And tree trees)) (sym (shifted-append d first rest))
        (EachHasLeaves.one_more (has-shifted inner) (subst (λ n. EachHasLeaves program planes stride n type trees (shifted d rest)) e (each-shifted others)))

-- ---- what is set

le-shift : (a b d : ℕ) → nat_le (a + d) (b + d) ≡ nat_le a b
le-shift a b d = elim (below-or b a) [
  | inl lt ↦ lt-leb (a + d) (b + d) (omega (arith, lt)) ∙ sym (lt-leb a b lt)
  | inr le ↦ le-leb (a + d) (b + d) (omega (arith, le)) ∙ sym (le-leb a b le)
]

lt-shift : (a b d : ℕ) → nat_lt (a + d) (b + d) ≡ nat_lt a b
lt-shift a b d = elim (below-or a b) [
  | inl lt ↦ lt-ltb (a + d) (b + d) (omega (arith, lt)) ∙ sym (lt-ltb a b lt)
  | inr le ↦ le-ltb (a + d) (b + d) (omega (arith, le)) ∙ sym (le-ltb a b le)
]

pub set-shifted : (d i : ℕ) (ls : List Leaf) → list_any (is_set_in itself (i + d)) (shifted d ls) ≡ list_any (is_set_in itself i) ls
set-shifted d i [] = refl
set-shifted d i (l ∷ ls) =
    let e : (l.at + d) + l.width ≡ (l.at + l.width) + d = omega arith in
    let m : (i + d) - (l.at + d) ≡ i - l.at = omega arith in
    ap (λ b. (b && nat_lt (i + d) ((l.at + d) + l.width) && bit_of (content_bits itself l.width l.content) ((i + d) - (l.at + d))) || list_any (is_set_in itself (i + d)) (shifted d ls)) (le-shift l.at i d)
    ∙ ap (λ n. (nat_le l.at i && nat_lt (i + d) n && bit_of (content_bits itself l.width l.content) ((i + d) - (l.at + d))) || list_any (is_set_in itself (i + d)) (shifted d ls)) e
    ∙ ap (λ b. (nat_le l.at i && b && bit_of (content_bits itself l.width l.content) ((i + d) - (l.at + d))) || list_any (is_set_in itself (i + d)) (shifted d ls)) (lt-shift i (l.at + l.width) d)
    ∙ ap (λ n. (nat_le l.at i && nat_lt i (l.at + l.width) && bit_of (content_bits itself l.width l.content) n) || list_any (is_set_in itself (i + d)) (shifted d ls)) m
    ∙ ap (λ b. is_set_in itself i l || b) (set-shifted d i ls)

both-unset : (a b : Bool) → (a && b && false) ≡ false
both-unset true true = refl
both-unset true false = refl
both-unset false b = refl

null-unset : (l : Leaf) (i : ℕ) → is_written l ≡ false → is_set_in itself i l ≡ false
null-unset l i e = ap (λ n. nat_le l.at i && nat_lt i (l.at + l.width) && bit_of n (i - l.at)) (zero-content l.width l.content e) ∙ none (nat_le l.at i) (nat_lt i (l.at + l.width)) (i - l.at)
  where
    zero-content : (w : ℕ) (c : Content) → is_written (leaf 0 w c) ≡ false → content_bits itself w c ≡ 0
    zero-content w (Number n) e = absurd (cc)
    zero-content w (Pointer None) e = refl
    zero-content w (Pointer (Some id)) e = absurd (cc)

    none : (a b : Bool) (k : ℕ) → (a && b && bit_of 0 k) ≡ false
    none a b k = ap (λ z. a && b && z) (ap (λ n. n == 1) (bit_at-zero k)) ∙ both-unset a b

set-kept : (l : Leaf) (ls : List Leaf) (i : ℕ) → list_any (is_set_in itself i) (written ls) ≡ list_any (is_set_in itself i) ls → (b : Bool) → is_written l ≡ b
    → list_any (is_set_in itself i) (cond (is_written l) (l ∷ written ls) (written ls)) ≡ (is_set_in itself i l || list_any (is_set_in itself i) ls)
set-kept l ls i rest true e = ap (λ b. list_any (is_set_in itself i) (cond b (l ∷ written ls) (written ls))) e ∙ ap (λ b. is_set_in itself i l || b) rest
set-kept l ls i rest false e = ap (λ b. list_any (is_set_in itself i) (cond b (l ∷ written ls) (written ls))) e ∙ rest ∙ ap (λ b. b || list_any (is_set_in itself i) ls) (sym (null-unset l i e))

set-written : (ls : List Leaf) (i : ℕ) → list_any (is_set_in itself i) (written ls) ≡ list_any (is_set_in itself i) ls
set-written [] i = refl
set-written (l ∷ ls) i = set-kept l ls i (set-written ls i) (is_written l) refl

-- ---- ranges by their bits

pub same-list : (xs ys : List ℕ) → length xs ≡ length ys → ((k : ℕ) → k < length xs → get_or xs k 0 ≡ get_or ys k 0) → xs ≡ ys
same-list [] [] e h = refl
same-list [] (y ∷ ys) e h = absurd (omega (arith, e))
same-list (x ∷ xs) [] e h = absurd (omega (arith, e))
same-list (x ∷ xs) (y ∷ ys) e h =
    let head : x ≡ y = h 0 (omega arith) in
    let rest : xs ≡ ys = same-list xs ys (omega (arith, e)) (λ k lt. h (suc k) (omega (arith, lt))) in
    cc

bit-at : (xs : List ℕ) (k i : ℕ) → i < 8 → bit_in xs (8 * k + i) ≡ bit_of (get_or xs k 0) i
bit-at xs k i h =
    let byte : (8 * k + i) / 8 ≡ k = omega (arith, h) in
    let bit : (8 * k + i) % 8 ≡ i = omega (arith, h) in
    ap (λ n. bit_of (get_or xs n 0) ((8 * k + i) % 8)) byte ∙ ap (bit_of (get_or xs k 0)) bit

same-range : (a b : Range) → a.start ≡ b.start → length a.bytes ≡ length b.bytes → AreSmall a → AreSmall b → ((j : ℕ) → bit_in a.bytes j ≡ bit_in b.bytes j) → a ≡ b
same-range a b start long small other bits =
    let bytes : a.bytes ≡ b.bytes =
    same-list a.bytes b.bytes long (λ k lt.
    same_bits 8 (get_or a.bytes k 0) (get_or b.bytes k 0) (small k) (other k) (λ i low. sym (bit-at a.bytes k i low) ∙ bits (8 * k + i) ∙ bit-at b.bytes k i low)) in
    ap (λ n. let r : Range = record { start = n; bytes = a.bytes } in r) start ∙ ap (λ xs. let r : Range = record { start = b.start; bytes = xs } in r) bytes

-- ---- the whole

zero-get : (n k : ℕ) → ◌≡◌ {A = ℕ} (get_or (replicate n 0) k 0) 0
zero-get zero k = refl
zero-get (suc n) zero = refl
zero-get (suc n) (suc k) = zero-get n k

length-replicated : (n : ℕ) → length {A = ℕ} (replicate n 0) ≡ n
length-replicated zero = refl
length-replicated (suc n) = ap suc (length-replicated n)

small-form : (form : List ℕ) → All (λ byte. byte < 256) form → (k : ℕ) → get_or form k 0 < 256
small-form [] h k = omega arith
small-form (b ∷ bs) h zero = All-head (λ byte. byte < 256) b bs h
small-form (b ∷ bs) h (suc k) = small-form bs (All-tail (λ byte. byte < 256) b bs h) k

module _ (r zeros new : Range) (addr size : ℕ) (form : List ℕ) (leaves : List Leaf) (inside : IsInside r addr size) (filled : zeros ≡ with_bytes r addr (replicate size 0))
    (over : Overlays (written (shifted (8 * (addr - r.start)) leaves)) zeros new) (small : AreSmall r) (bytes : AreBytesOf itself leaves size form)
    (within : Rises (8 * (addr - r.start)) (written (shifted (8 * (addr - r.start)) leaves)) (8 * (addr - r.start) + 8 * size)) where
  at-start : r.start + (addr - r.start) ≡ addr
  at-start = omega (arith, inside.from_start)

  zeros-is : zeros ≡ with_bytes r (r.start + (addr - r.start)) (replicate size 0)
  zeros-is = filled ∙ ap (λ a. with_bytes r a (replicate size 0)) (sym at-start)

  form-is : with_bytes r addr form ≡ with_bytes r (r.start + (addr - r.start)) form
  form-is = ap (λ a. with_bytes r a form) (sym at-start)

  long-zeros : length {A = ℕ} (replicate size 0) ≡ size
  long-zeros = length-replicated size

  fits-zeros : (addr - r.start) + length {A = ℕ} (replicate size 0) ≤ length r.bytes
  fits-zeros = omega (arith, long-zeros, inside.from_start, inside.to_end)

  fits-form : (addr - r.start) + length form ≤ length r.bytes
  fits-form = omega (arith, bytes.long, inside.from_start, inside.to_end)

  out-zeros : (k : ℕ) → (k < addr - r.start) ⊎ ((addr - r.start) + size ≤ k) → get_or zeros.bytes k 0 ≡ get_or r.bytes k 0
  out-zeros k out = ap (λ s. get_or s.bytes k 0) zeros-is ∙ get-outside (addr - r.start) r (replicate size 0) k fits-zeros (elim out [ inl lt ↦ inl lt | inr le ↦ inr (omega (arith, le, long-zeros)) ])

  in-zeros : (k : ℕ) → addr - r.start ≤ k → k < (addr - r.start) + size → get_or zeros.bytes k 0 ≡ 0
  in-zeros k low high =
      ap (λ s. get_or s.bytes k 0) zeros-is ∙ get-inside (addr - r.start) r (replicate size 0) k fits-zeros low (omega (arith, high, long-zeros)) ∙ zero-get size (k - (addr - r.start))

  out-form : (k : ℕ) → (k < addr - r.start) ⊎ ((addr - r.start) + size ≤ k) → get_or (with_bytes r addr form).bytes k 0 ≡ get_or r.bytes k 0
  out-form k out = ap (λ s. get_or s.bytes k 0) form-is ∙ get-outside (addr - r.start) r form k fits-form (elim out [ inl lt ↦ inl lt | inr le ↦ inr (omega (arith, le, bytes.long)) ])

  in-form : (k : ℕ) → addr - r.start ≤ k → k < (addr - r.start) + size → get_or (with_bytes r addr form).bytes k 0 ≡ get_or form (k - (addr - r.start)) 0
  in-form k low high = ap (λ s. get_or s.bytes k 0) form-is ∙ get-inside (addr - r.start) r form k fits-form low (omega (arith, high, bytes.long))

  outside-bit : (j : ℕ) → list_any (covers j) (written (shifted (8 * (addr - r.start)) leaves)) ≡ false → (j / 8 < addr - r.start) ⊎ ((addr - r.start) + size ≤ j / 8) → bit_in new.bytes j ≡ bit_in (with_bytes r addr form).bytes j
  outside-bit j none out = over.outside j none ∙ ap (λ b. bit_of b (j % 8)) (out-zeros (j / 8) out) ∙ sym (ap (λ b. bit_of b (j % 8)) (out-form (j / 8) out))

  inside-bit : (j : ℕ) → 8 * (addr - r.start) ≤ j → j < 8 * (addr - r.start) + 8 * size → bit_in new.bytes j ≡ bit_in (with_bytes r addr form).bytes j
  inside-bit j low high = go (list_any (covers j) (written (shifted (8 * (addr - r.start)) leaves))) refl
    where
      klow : addr - r.start ≤ j / 8
      klow = omega (arith, low)

      khigh : j / 8 < (addr - r.start) + size
      khigh = omega (arith, high)

      back : (j - 8 * (addr - r.start)) + 8 * (addr - r.start) ≡ j
      back = omega (arith, low)

      form-bit : bit_in (with_bytes r addr form).bytes j ≡ list_any (is_set_in itself (j - 8 * (addr - r.start))) leaves
      form-bit =
          let k : j / 8 - (addr - r.start) ≡ (j - 8 * (addr - r.start)) / 8 = omega (arith, low) in
          let i : j % 8 ≡ (j - 8 * (addr - r.start)) % 8 = omega (arith, low) in
          ap (λ b. bit_of b (j % 8)) (in-form (j / 8) klow khigh)
          ∙ ap (λ n. bit_of (get_or form n 0) (j % 8)) k
          ∙ ap (bit_of (get_or form ((j - 8 * (addr - r.start)) / 8) 0)) i
          ∙ bytes.stand (j - 8 * (addr - r.start)) (omega (arith, high, low, bytes.long))

      set-bit : list_any (is_set_in itself j) (written (shifted (8 * (addr - r.start)) leaves)) ≡ list_any (is_set_in itself (j - 8 * (addr - r.start))) leaves
      set-bit =
          set-written (shifted (8 * (addr - r.start)) leaves) j
          ∙ ap (λ n. list_any (is_set_in itself n) (shifted (8 * (addr - r.start)) leaves)) (sym back)
          ∙ set-shifted (8 * (addr - r.start)) (j - 8 * (addr - r.start)) leaves

      go : (b : Bool) → list_any (covers j) (written (shifted (8 * (addr - r.start)) leaves)) ≡ b → bit_in new.bytes j ≡ bit_in (with_bytes r addr form).bytes j
      go true c = over.inside j c ∙ set-bit ∙ sym form-bit
      go false c =
          over.outside j c
          ∙ ap (λ b. bit_of b (j % 8)) (in-zeros (j / 8) klow khigh)
          ∙ ap (λ n. n == 1) (bit_at-zero (j % 8))
          ∙ sym (none-set (written (shifted (8 * (addr - r.start)) leaves)) j c)
          ∙ set-bit
          ∙ sym form-bit

  every-bit : (j : ℕ) → bit_in new.bytes j ≡ bit_in (with_bytes r addr form).bytes j
  every-bit j = go (below-or j (8 * (addr - r.start))) (below-or j (8 * (addr - r.start) + 8 * size))
    where
      go : (j < 8 * (addr - r.start)) ⊎ (8 * (addr - r.start) ≤ j) → (j < 8 * (addr - r.start) + 8 * size) ⊎ (8 * (addr - r.start) + 8 * size ≤ j) → bit_in new.bytes j ≡ bit_in (with_bytes r addr form).bytes j
      go (inl lt) y =
          let k : j / 8 < addr - r.start = omega (arith, lt) in
          outside-bit j (any-low (8 * (addr - r.start)) (written (shifted (8 * (addr - r.start)) leaves)) (8 * (addr - r.start) + 8 * size) j within lt) (inl k)
      go (inr le) (inl lt) = inside-bit j le lt
      go (inr le) (inr far) =
          let k : (addr - r.start) + size ≤ j / 8 = omega (arith, far) in
          outside-bit j (any-high (8 * (addr - r.start)) (written (shifted (8 * (addr - r.start)) leaves)) (8 * (addr - r.start) + 8 * size) j within far) (inr k)

  pub stored-whole : new ≡ with_bytes r addr form
  stored-whole =
      let long_form : length (with_bytes r addr form).bytes ≡ length r.bytes = length-with_bytes r addr form (record { from_start = inside.from_start; to_end = omega (arith, inside.to_end, bytes.long) }) in
      let long_zeros : length zeros.bytes ≡ length r.bytes =
      ap (λ s. length s.bytes) filled ∙ length-with_bytes r addr (replicate size 0) (record { from_start = inside.from_start; to_end = omega (arith, inside.to_end, long-zeros) }) in
      let start_zeros : zeros.start ≡ r.start = ap (λ s. s.start) filled in
      let small_zeros : AreSmall zeros =
      subst AreSmall (sym zeros-is) (small-with (addr - r.start) r (replicate size 0) fits-zeros (λ k. subst (λ n. n < 256) (sym (zero-get size k)) (omega arith)) small) in
      let small_form : AreSmall (with_bytes r addr form) = subst AreSmall (sym form-is) (small-with (addr - r.start) r form fits-form (small-form form bytes.small) small) in
      same-range new (with_bytes r addr form) (over.addresses.start ∙ start_zeros) (over.addresses.len ∙ long_zeros ∙ sym long_form) (over.small small_zeros) small_form every-bit
