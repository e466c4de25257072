-- Leaves of one place and width for which the same bits stand.
use Rattle.std.proofs.Common.{◌≡◌, ℕ, ◌+◌, ◌*◌, ◌^◌, ◌<◌, ◌≤◌, Bool, true, false, cond, IsTrue, List, [], ◌∷◌, length, refl, sym, ◌∙◌, arith, Some, None}
use Rattle.std.specs.Prelude.{All, ℤ, pos, negsuc}
use Rattle.std.specs.List.{filter}
use Rattle.std.proofs.lemmas.Bool.{lt-ltb, ltb-true}
use Rattle.std.proofs.lemmas.List.Elements.{All-nil, All-cons, All-head, All-tail, All-append}
use Rattle.gt_types.specs.declared.types.Scalar.{Scalar}
use Rattle.gt_types.specs.declared.types.Scalar.TheVariants as scalar
use Rattle.gt_types.specs.declared.types.Width.TheVariants.{W1, W2, W4, W8}
use Rattle.gt_types.specs.declared.types.Ty.{Ty}
use Rattle.gt_types.specs.declared.program.Program.{Program}
use Rattle.gt_types.specs.Shapes.{bits_of}
use Rattle.gt_layout.specs.declared.planes.Plane.{Plane}
use Rattle.gt_layout.specs.declared.planes.FieldSpot.{FieldSpot}
use Rattle.gt_layout.specs.Storages.{bytes_of}
use Rattle.gt_tree.specs.Trees.{Tree, Trees, without_pointers, all_without_pointers}
use Rattle.gt_tree.specs.Numbers.{is_signed, has_room, two's_complement}
use Rattle.gt_tree.specs.Blocks.{Block, Blocks}
use Rattle.gt_tree.specs.Leaves.{Leaf, Content, leaf, Number, Pointer, byte_leaves, is_number, bit_of, HasLeaves, FieldsHaveLeaves, EachHasLeaves}
use Rattle.gt_tree.specs.FixedLaws.{IsHeldAt, AreAddresses}
use Rattle.gt_tree.proofs.FixedBits.{same_bits, numbers-fixed}

-- of a number this holds, and a pointer is null
abbrev pub OrNull : Content → Type 0 → Type 0
OrNull (Number n) X = X
OrNull (Pointer name) X = name ≡ None

-- each leaf is held, or where `false` is given each number, and pointers are null
abbrev pub Got : (ℕ → ℕ) → (ℕ → Bool) → Bool → Leaf → Type 0
Got address bits true l = IsHeldAt address bits l
Got address bits false l = OrNull l.content (IsHeldAt address bits l)

-- ---- null pointers

abbrev NullOnly : Leaf → Type 0
NullOnly l = OrNull l.content (Unit {0})

null-bytes : (at : ℕ) (bytes : List ℕ) → All NullOnly (byte_leaves at bytes)
null-bytes at [] = All-nil NullOnly
null-bytes at (byte ∷ bytes) = All-cons NullOnly (leaf at 8 (Number (pos byte))) (byte_leaves (at + 8) bytes) tt (null-bytes (at + 8) bytes)

number-null : (c : Content) → elim c as (λ _. Bool) [ Number n ↦ true | Pointer name ↦ false ] ≡ true → OrNull c (Unit {0})
number-null (Number n) e = tt
number-null (Pointer name) e = absurd (cc)

null-first : (l : Leaf) (ls : List Leaf) (b : Bool) → is_number l ≡ b → All NullOnly ls → All NullOnly (cond b (l ∷ ls) ls)
null-first l ls true e h = All-cons NullOnly l ls (number-null l.content e) h
null-first l ls false e h = h

null-filter : (ls : List Leaf) → All NullOnly (filter is_number ls)
null-filter [] = All-nil NullOnly
null-filter (l ∷ ls) = null-first l (filter is_number ls) (is_number l) refl (null-filter ls)

module _ {program : Program} {planes : List Plane} where
  mutual
    pub nulls : {at : ℕ} {type : Ty} {tree : Tree} {ls : List Leaf} → HasLeaves program planes at type tree ls → without_pointers tree ≡ tree → All NullOnly ls
    nulls (HasLeaves.number {at} {scalar} {n}) e = All-cons NullOnly (leaf at (8 * bytes_of scalar) (Number n)) [] tt (All-nil NullOnly)
    nulls (HasLeaves.bits {at} {unit} {width} {n}) e = All-cons NullOnly (leaf at width (Number n)) [] tt (All-nil NullOnly)
    nulls (HasLeaves.opaque {at} {bytes}) e = null-bytes at bytes
    nulls (HasLeaves.null {at} p) e = All-cons NullOnly (leaf at 64 (Pointer None)) [] refl (All-nil NullOnly)
    nulls (HasLeaves.to {id} p) e = absurd (cc)
    nulls (HasLeaves.struct {trees} h u g fields) e = nulls_fields fields (cc)
    nulls (HasLeaves.member h u g part) e = nulls part (cc)
    nulls (HasLeaves.common {leaves} h u c part) e = null-filter leaves
    nulls (HasLeaves.nothing h u n) e = All-nil NullOnly
    nulls (HasLeaves.array o each) e = nulls_each each (cc)
    nulls (HasLeaves.tail o each) e = nulls_each each (cc)

    nulls_fields : {at : ℕ} {types : List Ty} {spots : List FieldSpot} {trees : Trees} {ls : List Leaf} → FieldsHaveLeaves program planes at types spots trees ls → all_without_pointers trees ≡ trees → All NullOnly ls
    nulls_fields FieldsHaveLeaves.none e = All-nil NullOnly
    nulls_fields (FieldsHaveLeaves.more {first} {rest} part parts) e = All-append NullOnly first rest (nulls part (cc)) (nulls_fields parts (cc))

    nulls_each : {stride at : ℕ} {type : Ty} {trees : Trees} {ls : List Leaf} → EachHasLeaves program planes stride at type trees ls → all_without_pointers trees ≡ trees → All NullOnly ls
    nulls_each EachHasLeaves.no_more e = All-nil NullOnly
    nulls_each (EachHasLeaves.one_more {first} {rest} part parts) e = All-append NullOnly first rest (nulls part (cc)) (nulls_each parts (cc))

-- ---- the numbers among leaves

or-null : (c : Content) (X : Type 0) → OrNull c (Unit {0}) → (elim c as (λ _. Bool) [ Number n ↦ true | Pointer name ↦ false ] ≡ true → X) → OrNull c X
or-null (Number n) X u h = h refl
or-null (Pointer name) X e h = e

but-number : (c : Content) (X : Type 0) → elim c as (λ _. Bool) [ Number n ↦ true | Pointer name ↦ false ] ≡ true → OrNull c X → X
but-number (Number n) X e h = h
but-number (Pointer name) X e h = absurd (cc)

module _ (address : ℕ → ℕ) (bits : ℕ → Bool) where
  number-held : (whole : Bool) (l : Leaf) → is_number l ≡ true → Got address bits whole l → IsHeldAt address bits l
  number-held true l e h = h
  number-held false l e h = but-number l.content (IsHeldAt address bits l) e h

  first-number : (held : Leaf → Type 0) (l : Leaf) (ls : List Leaf) (b : Bool) → is_number l ≡ b → All held (cond b (l ∷ ls) ls) → (is_number l ≡ true → held l) × All held ls
  first-number held l ls true e h = (λ t. All-head held l ls h, All-tail held l ls h)
  first-number held l ls false e h = (λ t. absurd (cc), h)

  -- where the pointers are null, the numbers say it all
  pub weaker : (whole : Bool) (ls : List Leaf) → All NullOnly ls → All (Got address bits whole) (filter is_number ls) → All (Got address bits false) ls
  weaker whole [] n h = All-nil (Got address bits false)
  weaker whole (l ∷ ls) n h =
      let found = first-number (Got address bits whole) l (filter is_number ls) (is_number l) refl h in
      All-cons (Got address bits false) l ls
      (or-null l.content (IsHeldAt address bits l) (All-head NullOnly l ls n) (λ t. number-held whole l t (found.0 t)))
      (weaker whole ls (All-tail NullOnly l ls n) found.1)

  -- ---- equal contents

  number-bits : (whole : Bool) (at width : ℕ) (n : ℤ) → Got address bits whole (leaf at width (Number n)) → (i : ℕ) → i < width → bits (at + i) ≡ bit_of (two's_complement width n) i
  number-bits true at width n h = h
  number-bits false at width n h = h

  -- the numbers of two leaves of one place have the same bits
  pub alike : (whole : Bool) (at width : ℕ) (a b : ℤ) → Got address bits whole (leaf at width (Number a)) → Got address bits whole (leaf at width (Number b))
      → (i : ℕ) → i < width → bit_of (two's_complement width a) i ≡ bit_of (two's_complement width b) i
  alike whole at width a b x y i lt = sym (number-bits whole at width a x i lt) ∙ number-bits whole at width b y i lt

  pub same-bits : (whole : Bool) (signed : Bool) (at width : ℕ) (a b : ℤ) → 1 ≤ width → IsTrue (has_room signed width a) → IsTrue (has_room signed width b)
      → Got address bits whole (leaf at width (Number a)) → Got address bits whole (leaf at width (Number b)) → a ≡ b
  same-bits whole signed at width a b some x y p q = numbers-fixed signed width a b some x y (alike whole at width a b p q)

  more-room : (n : ℤ) → IsTrue (has_room false 1 n) → IsTrue (has_room false 8 n)
  more-room (pos n) h = lt-ltb n (2 ^ 8) (let less : n < 2 ^ 1 = ltb-true n (2 ^ 1) h in omega arith)
  more-room (negsuc n) h = h

  pub same-number : (whole : Bool) (number : Scalar) (at : ℕ) (a b : ℤ) → IsTrue (has_room (is_signed number) (bits_of number) a) → IsTrue (has_room (is_signed number) (bits_of number) b)
      → Got address bits whole (leaf at (8 * bytes_of number) (Number a)) → Got address bits whole (leaf at (8 * bytes_of number) (Number b)) → a ≡ b
  same-number whole scalar.Bool at a b x y = same-bits whole false at 8 a b (omega arith) (more-room a x) (more-room b y)
  same-number whole (scalar.Int W1 signed) at a b x y = same-bits whole signed at 8 a b (omega arith) x y
  same-number whole (scalar.Int W2 signed) at a b x y = same-bits whole signed at 16 a b (omega arith) x y
  same-number whole (scalar.Int W4 signed) at a b x y = same-bits whole signed at 32 a b (omega arith) x y
  same-number whole (scalar.Int W8 signed) at a b x y = same-bits whole signed at 64 a b (omega arith) x y

  pub same-bytes : (whole : Bool) (at : ℕ) (xs ys : List ℕ) → length xs ≡ length ys → All (λ byte. byte < 256) xs → All (λ byte. byte < 256) ys
      → All (Got address bits whole) (byte_leaves at xs) → All (Got address bits whole) (byte_leaves at ys) → xs ≡ ys
  same-bytes whole at [] [] e x y p q = refl
  same-bytes whole at [] (b ∷ bs) e x y p q = absurd (omega arith)
  same-bytes whole at (a ∷ as') [] e x y p q = absurd (omega arith)
  same-bytes whole at (a ∷ as') (b ∷ bs) e x y p q =
      let held = Got address bits whole in
      let small = All-head (λ byte. byte < 256) a as' x in
      let other = All-head (λ byte. byte < 256) b bs y in
      let first : a ≡ b = same_bits 8 a b small other (alike whole at 8 (pos a) (pos b) (All-head held (leaf at 8 (Number (pos a))) (byte_leaves (at + 8) as') p) (All-head held (leaf at 8 (Number (pos b))) (byte_leaves (at + 8) bs) q)) in
      let rest : as' ≡ bs = same-bytes whole (at + 8) as' bs (omega arith) (All-tail (λ byte. byte < 256) a as' x) (All-tail (λ byte. byte < 256) b bs y)
      (All-tail held (leaf at 8 (Number (pos a))) (byte_leaves (at + 8) as') p) (All-tail held (leaf at 8 (Number (pos b))) (byte_leaves (at + 8) bs) q) in
      cc

  module _ (blocks : Blocks) (good : AreAddresses blocks address) where
    pub null-to : (whole : Bool) (at id : ℕ) (b : Block) → blocks id ≡ Some b → Got address bits whole (leaf at 64 (Pointer None)) → Got address bits whole (leaf at 64 (Pointer (Some id))) → ⊥
    null-to true at id b is x y =
        let low : 0 < address id = good.not_null id b is in
        let e : 0 ≡ address id = same_bits 64 0 (address id) (omega arith) (good.small id b is) (λ i lt. sym (x i lt) ∙ y i lt) in
        omega arith
    null-to false at id b is x y = cc

    pub to-to : (whole : Bool) (at id other : ℕ) (b c : Block) → blocks id ≡ Some b → blocks other ≡ Some c → Got address bits whole (leaf at 64 (Pointer (Some id)))
        → Got address bits whole (leaf at 64 (Pointer (Some other))) → id ≡ other
    to-to true at id other b c is are x y =
        good.apart id other b c is are (same_bits 64 (address id) (address other) (good.small id b is) (good.small other c are) (λ i lt. sym (x i lt) ∙ y i lt))
    to-to false at id other b c is are x y = absurd (cc)
