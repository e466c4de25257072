-- Which bits a leaf has, and what they are.
use Rattle.std.proofs.Common.{◌≡◌, ◌⊎◌, ℕ, suc, ◌+◌, ◌-◌, ◌*◌, ◌/◌, ◌%◌, ◌<◌, ◌≤◌, Bool, true, false, cond, ◌||◌, IsTrue, List, [], ◌∷◌, length, refl, ap, sym, ◌∙◌, arith, inl, inr, Some, None, get_or}
use Rattle.std.specs.Prelude.{◌==◌, pos}
use Rattle.std.specs.List.{list_any}
use Rattle.std.proofs.lemmas.Bool.{eqb-true}
use Rattle.std.proofs.lemmas.Nat.Bits.{bit_at-zero}
use Rattle.gt_types.specs.declared.expressions.Expr.{Expr}
use Rattle.gt_types.specs.declared.types.Ty.{Ty, out-Ty}
use Rattle.gt_types.specs.declared.types.Ty.TheOpen as part
use Rattle.gt_types.specs.declared.types.Ty.TheVariants as ty
use Rattle.gt_types.specs.declared.types.Ty.TheVariants.{outs-Num, outs-Bits, outs-Opaque, outs-Str, outs-Ptr, outs-Node}
use Rattle.gt_types.specs.declared.program.Program.{Program}
use Rattle.gt_types.specs.Shapes.{is_pointer}
use Rattle.gt_layout.specs.declared.planes.Plane.{Plane}
use Rattle.gt_layout.specs.Storages.{bytes_of}
use Rattle.gt_tree.specs.Numbers.{is_signed, two's_complement}
use Rattle.gt_tree.specs.Trees.{Tree, Num, Raw, Null, To, without_pointers}
use Rattle.gt_tree.specs.Blocks.{Blocks}
use Rattle.gt_tree.specs.Scopes.{Scope}
use Rattle.gt_tree.specs.Fits.{Fits}
use Rattle.gt_tree.specs.Leaves.{Leaf, Content, leaf, Number, Pointer, byte_leaves, is_number, bit_of, content_bits, is_set_in, HasLeaves}
use Rattle.gt_tree.specs.FixedLaws.{bit_in}
use Rattle.gt_tree.proofs.Chains.{Chain, Chain-end, Chain-filter, Chain-bytes}
use Rattle.gt_tree.proofs.Fitting.{fits-opaque}
use Rattle.gt_tree.proofs.Rooms.{Room, room-number, room-bits, room-opaque, room-pointer}
use Rattle.gt_value.specs.declared.places.LeafContent.{LeafContent}
use Rattle.gt_value.specs.declared.places.LeafContent.TheVariants as content
use Rattle.gt_value.specs.declared.places.LeafKind.{LeafKind}
use Rattle.gt_value.specs.declared.places.LeafKind.TheVariants as kinds
use Rattle.gt_value.specs.Bytes.{itself}
use Rattle.gt_value.specs.Places.{leaf_kind, kind_of_shape, IsContentOf}
use Rattle.gt_value.specs.Reading.{shape}
use Rattle.gt_store.specs.Leaf.{width_of, bits_of}
use Rattle.gt_store.specs.Overlays.{Rises}
use Rattle.gt_store.proofs.BitLemmas.{below-or}
use Rattle.gt_store.proofs.OverlayLemmas.{none-set, any-low, any-high, set-of, or-false}
use Rattle.gt_store.proofs.LeafParts.{seen}

-- ---- leaves in order

rises-of : (from : ℕ) (ls : List Leaf) (end : ℕ) → Chain from ls end → Rises from ls end
rises-of from [] end h = h
rises-of from (l ∷ ls) end h = (h.0, rises-of (l.at + l.width) ls end h.1)

pub unset-low : (from : ℕ) (ls : List Leaf) (end j : ℕ) → Chain from ls end → j < from → list_any (is_set_in itself j) ls ≡ false
unset-low from ls end j h lt = none-set ls j (any-low from ls end j (rises-of from ls end h) lt)

pub unset-high : (from : ℕ) (ls : List Leaf) (end j : ℕ) → Chain from ls end → end ≤ j → list_any (is_set_in itself j) ls ≡ false
unset-high from ls end j h le = none-set ls j (any-high from ls end j (rises-of from ls end h) le)

pub Chain-seen : (shown : Bool) (from : ℕ) (ls : List Leaf) (end : ℕ) → Chain from ls end → Chain from (seen shown ls) end
Chain-seen true from ls end h = h
Chain-seen false from ls end h = Chain-filter is_number from ls end h

-- ---- what a type holds

pointer-kind : (type : Ty) → IsTrue (is_pointer type) → leaf_kind type ≡ Some kinds.Pointer
pointer-kind (ty.Str count) p = refl
pointer-kind (ty.Ptr target kind reorder) p = refl
pointer-kind type p = absurd (cc)

array-kind : (type elem : Ty) (n : ℕ) → out-Ty type ≡ part.Arr n elem → leaf_kind type ≡ None
array-kind (ty.Num scalar) elem n e = let o = outs-Num scalar in absurd (cc)
array-kind (ty.Bits unit width) elem n e = let o = outs-Bits unit width in absurd (cc)
array-kind (ty.Opaque size align) elem n e = let o = outs-Opaque size align in absurd (cc)
array-kind (ty.Str count) elem n e = let o = outs-Str count in absurd (cc)
array-kind (ty.Ptr target kind reorder) elem n e = let o = outs-Ptr target kind reorder in absurd (cc)
array-kind type elem n e = refl

tail-kind : (type elem : Ty) (long : Expr) → out-Ty type ≡ part.Tail long elem → leaf_kind type ≡ None
tail-kind (ty.Num scalar) elem long e = let o = outs-Num scalar in absurd (cc)
tail-kind (ty.Bits unit width) elem long e = let o = outs-Bits unit width in absurd (cc)
tail-kind (ty.Opaque size align) elem long e = let o = outs-Opaque size align in absurd (cc)
tail-kind (ty.Str count) elem long e = let o = outs-Str count in absurd (cc)
tail-kind (ty.Ptr target kind reorder) elem long e = let o = outs-Ptr target kind reorder in absurd (cc)
tail-kind type elem long e = refl

bits-kind : (b s : Bool) (w : ℕ) (kind : LeafKind) → kind_of_shape (cond b (Some (shape s w)) None) ≡ Some kind → kind ≡ kinds.Number s w
bits-kind true s w kind e = cc
bits-kind false s w kind e = absurd (cc)

opaque-kind : (size : ℕ) (kind : LeafKind) → cond (size == 8) (Some (kinds.Number true 64)) None ≡ Some kind → (size ≡ 8) × (kind ≡ kinds.Number true 64)
opaque-kind size kind = go (size == 8) refl
  where
    go : (b : Bool) → (size == 8) ≡ b → cond b (Some (kinds.Number true 64)) None ≡ Some kind → (size ≡ 8) × (kind ≡ kinds.Number true 64)
    go true is e = (eqb-true size 8 is, cc)
    go false is e = absurd (cc)

number-kind : (s : Bool) (w : ℕ) (kind : LeafKind) → Some (kinds.Number s w) ≡ Some kind → kind ≡ kinds.Number s w
number-kind s w kind e = cc

pointer-is : (type : Ty) (kind : LeafKind) → IsTrue (is_pointer type) → leaf_kind type ≡ Some kind → kind ≡ kinds.Pointer
pointer-is type kind p e = let q = pointer-kind type p in cc

none-is : {X : Type 0} (type : Ty) (kind : LeafKind) → leaf_kind type ≡ None → leaf_kind type ≡ Some kind → X
none-is type kind n e = absurd (cc)

-- ---- the bits of a leaf are as many as its type says

at-least : (at w n : ℕ) → w ≤ n → (at ≤ at) × (at + w ≤ at + n)
at-least at w n le = (omega arith, omega (arith, le))

module _ {program : Program} {planes : List Plane} {blocks : Blocks} {capacity : ℕ} where
  pub tight : {at : ℕ} {type : Ty} {tree : Tree} {leaves : List Leaf} → HasLeaves program planes at type tree leaves → (scope : Scope) (kind : LeafKind) → Fits program blocks capacity scope type tree → leaf_kind type ≡ Some kind
      → Chain at leaves (at + width_of kind)
  tight (HasLeaves.number {at} {scalar} {n}) scope kind fits e =
      let same : width_of kind ≡ 8 * bytes_of scalar = ap width_of (number-kind (is_signed scalar) (8 * bytes_of scalar) kind e) in
      at-least at (8 * bytes_of scalar) (width_of kind) (omega (arith, same))
  tight (HasLeaves.bits {at} {unit} {width} {n}) scope kind fits e =
      let same : width_of kind ≡ width = ap width_of (bits-kind _ (is_signed unit) width kind e) in
      at-least at width (width_of kind) (omega (arith, same))
  tight (HasLeaves.opaque {at} {size} {align} {bytes}) scope kind fits e =
      let is = opaque-kind size kind e in
      let same : width_of kind ≡ 64 = ap width_of is.1 in
      let long = fits-opaque size align bytes fits in
      Chain-end at (byte_leaves at bytes) (at + 8 * length bytes) (at + width_of kind) (omega (arith, same, long, is.0)) (Chain-bytes at bytes)
  tight (HasLeaves.null {at} {type} p) scope kind fits e =
      let same : width_of kind ≡ 64 = ap width_of (pointer-is type kind p e) in
      at-least at 64 (width_of kind) (omega (arith, same))
  tight (HasLeaves.to {at} {type} {id} p) scope kind fits e =
      let same : width_of kind ≡ 64 = ap width_of (pointer-is type kind p e) in
      at-least at 64 (width_of kind) (omega (arith, same))
  tight (HasLeaves.struct h u g fields) scope kind fits e = absurd (cc)
  tight (HasLeaves.member h u g inner) scope kind fits e = absurd (cc)
  tight (HasLeaves.common h u c inner) scope kind fits e = absurd (cc)
  tight (HasLeaves.nothing h u n) scope kind fits e = absurd (cc)
  tight (HasLeaves.array {type} {elem} {n} o each) scope kind fits e = none-is type kind (array-kind type elem n o) e
  tight (HasLeaves.tail {type} {elem} {length = long} o each) scope kind fits e = none-is type kind (tail-kind type elem long o) e

module _ {program : Program} {planes : List Plane} {capacity : ℕ} where
  pub room-leaf : (type : Ty) (kind : LeafKind) (b : ℕ) → leaf_kind type ≡ Some kind → Room program planes capacity type b → width_of kind ≤ b
  room-leaf (ty.Num scalar) kind b e room =
      let same : width_of kind ≡ 8 * bytes_of scalar = ap width_of (number-kind (is_signed scalar) (8 * bytes_of scalar) kind e) in
      let le = room-number scalar b room in
      omega (arith, same, le)
  room-leaf (ty.Bits unit width) kind b e room =
      let same : width_of kind ≡ width = ap width_of (bits-kind _ (is_signed unit) width kind e) in
      let le = room-bits unit width b room in
      omega (arith, same, le)
  room-leaf (ty.Opaque size align) kind b e room =
      let is = opaque-kind size kind e in
      let same : width_of kind ≡ 64 = ap width_of is.1 in
      let le = room-opaque size align b room in
      omega (arith, same, le, is.0)
  room-leaf (ty.Str count) kind b e room =
      let same : width_of kind ≡ 64 = ap width_of (pointer-is (ty.Str count) kind refl e) in
      let le = room-pointer (ty.Str count) b refl room in
      omega (arith, same, le)
  room-leaf (ty.Ptr target sort reorder) kind b e room =
      let same : width_of kind ≡ 64 = ap width_of (pointer-is (ty.Ptr target sort reorder) kind refl e) in
      let le = room-pointer (ty.Ptr target sort reorder) b refl room in
      omega (arith, same, le)
  room-leaf type kind b e room = absurd (cc)

-- ---- what they are

one-seen : (shown : Bool) (at w : ℕ) (n : _) → seen shown (leaf at w (Number n) ∷ []) ≡ leaf at w (Number n) ∷ []
one-seen true at w n = refl
one-seen false at w n = refl

bytes-seen : (shown : Bool) (at : ℕ) (bytes : List ℕ) → seen shown (byte_leaves at bytes) ≡ byte_leaves at bytes
bytes-seen true at bytes = refl
bytes-seen false at [] = refl
bytes-seen false at (byte ∷ bytes) = ap (λ ls. leaf at 8 (Number (pos byte)) ∷ ls) (bytes-seen false (at + 8) bytes)

-- the bits of one leaf
set-one : (at w : ℕ) (c : Content) (j : ℕ) → at ≤ j → j < at + w → list_any (is_set_in itself j) (leaf at w c ∷ []) ≡ bit_of (content_bits itself w c) (j - at)
set-one at w c j low high = or-false (is_set_in itself j (leaf at w c)) ∙ set-of (leaf at w c) j low high

-- the bits of bytes that are never scanned
set-bytes : (at : ℕ) (bytes : List ℕ) (j : ℕ) → at ≤ j → j < at + 8 * length bytes → list_any (is_set_in itself j) (byte_leaves at bytes) ≡ bit_in bytes (j - at)
set-bytes at [] j low high = absurd (omega (arith, low, high))
set-bytes at (byte ∷ bytes) j low high = go (below-or j (at + 8)) (λ le lt. set-bytes (at + 8) bytes j le lt)
  where
    go : (j < at + 8) ⊎ (at + 8 ≤ j) → (at + 8 ≤ j → j < (at + 8) + 8 * length bytes → list_any (is_set_in itself j) (byte_leaves (at + 8) bytes) ≡ bit_in bytes (j - (at + 8)))
        → list_any (is_set_in itself j) (byte_leaves at (byte ∷ bytes)) ≡ bit_in (byte ∷ bytes) (j - at)
    go (inl lt) later =
        let k : (j - at) / 8 ≡ 0 = omega (arith, low, lt) in
        let i : (j - at) % 8 ≡ j - at = omega (arith, low, lt) in
        ap (λ b. is_set_in itself j (leaf at 8 (Number (pos byte))) || b) (unset-low (at + 8) (byte_leaves (at + 8) bytes) ((at + 8) + 8 * length bytes) j (Chain-bytes (at + 8) bytes) lt)
        ∙ or-false (is_set_in itself j (leaf at 8 (Number (pos byte))))
        ∙ set-of (leaf at 8 (Number (pos byte))) j low lt
        ∙ sym (ap (λ n. bit_of (get_or (byte ∷ bytes) n 0) ((j - at) % 8)) k ∙ ap (bit_of byte) i)
    go (inr le) later =
        let k : (j - at) / 8 ≡ suc ((j - (at + 8)) / 8) = omega (arith, le) in
        let i : (j - at) % 8 ≡ (j - (at + 8)) % 8 = omega (arith, le) in
        let here : at ≤ at = omega arith in
        let end : at + 8 ≤ at + 8 = omega arith in
        let one : Chain at (leaf at 8 (Number (pos byte)) ∷ []) (at + 8) = (here, end) in
        ap (λ b. b || list_any (is_set_in itself j) (byte_leaves (at + 8) bytes))
        (sym (or-false (is_set_in itself j (leaf at 8 (Number (pos byte))))) ∙ unset-high at (leaf at 8 (Number (pos byte)) ∷ []) (at + 8) j one le)
        ∙ later le (omega (arith, high))
        ∙ sym (ap (λ n. bit_of (get_or (byte ∷ bytes) n 0) ((j - at) % 8)) k ∙ ap (bit_of (get_or bytes ((j - (at + 8)) / 8) 0)) i)

zero-bit : (k : ℕ) → bit_of 0 k ≡ false
zero-bit k = ap (λ n. n == 1) (bit_at-zero k)

no-pointer : {X : Type 0} (shown : Bool) (id : ℕ) → (shown ≡ true) ⊎ (without_pointers (To id) ≡ To id) → shown ≡ false → X
no-pointer shown id (inl e) f = absurd (cc)
no-pointer shown id (inr e) f = absurd (cc)

-- a number in one leaf
number-bits : (at w : ℕ) (n : _) (is : LeafContent) (kind : LeafKind) (shown : Bool) (j : ℕ) → width_of kind ≡ w → IsContentOf is (Num n) → at ≤ j → j < at + width_of kind
    → list_any (is_set_in itself j) (seen shown (leaf at w (Number n) ∷ [])) ≡ bit_of (bits_of kind is) (j - at)
number-bits at w n (content.Num m) kind shown j same is low high =
    ap (list_any (is_set_in itself j)) (one-seen shown at w n)
    ∙ set-one at w (Number n) j low (omega (arith, high, same))
    ∙ ap (λ x. bit_of (two's_complement w x) (j - at)) (sym is)
    ∙ ap (λ x. bit_of (two's_complement x m) (j - at)) (sym same)
number-bits at w n content.Null kind shown j same is low high = absurd is
number-bits at w n (content.To address) kind shown j same is low high = absurd is

bytes-bits : (at : ℕ) (bytes : List ℕ) (is : LeafContent) (kind : LeafKind) (shown : Bool) (j : ℕ) → width_of kind ≡ 64 → IsContentOf is (Raw bytes) → at ≤ j → j < at + width_of kind
    → list_any (is_set_in itself j) (seen shown (byte_leaves at bytes)) ≡ bit_of (bits_of kind is) (j - at)
bytes-bits at bytes (content.Num m) kind shown j same is low high =
    ap (list_any (is_set_in itself j)) (bytes-seen shown at bytes)
    ∙ set-bytes at bytes j low (omega (arith, high, same, is.0))
    ∙ sym (is.2 (j - at) (omega (arith, high, low, same)))
    ∙ ap (λ x. bit_of (two's_complement x m) (j - at)) (sym same)
bytes-bits at bytes content.Null kind shown j same is low high = absurd is
bytes-bits at bytes (content.To address) kind shown j same is low high = absurd is

null-bits : (at : ℕ) (is : LeafContent) (kind : LeafKind) (shown : Bool) (j : ℕ) → width_of kind ≡ 64 → IsContentOf is Null → at ≤ j → j < at + width_of kind
    → list_any (is_set_in itself j) (seen shown (leaf at 64 (Pointer None) ∷ [])) ≡ bit_of (bits_of kind is) (j - at)
null-bits at (content.Num m) kind shown j same is low high = absurd is
null-bits at content.Null kind true j same is low high = set-one at 64 (Pointer None) j low (omega (arith, high, same))
null-bits at content.Null kind false j same is low high = sym (zero-bit (j - at))
null-bits at (content.To address) kind shown j same is low high = absurd is

to-bits : (at id : ℕ) (is : LeafContent) (kind : LeafKind) (shown : Bool) (j : ℕ) → width_of kind ≡ 64 → IsContentOf is (To id) → (shown ≡ true) ⊎ (without_pointers (To id) ≡ To id) → at ≤ j → j < at + width_of kind
    → list_any (is_set_in itself j) (seen shown (leaf at 64 (Pointer (Some id)) ∷ [])) ≡ bit_of (bits_of kind is) (j - at)
to-bits at id (content.Num m) kind shown j same is active low high = absurd is
to-bits at id content.Null kind shown j same is active low high = absurd is
to-bits at id (content.To address) kind true j same is active low high =
    set-one at 64 (Pointer (Some id)) j low (omega (arith, high, same)) ∙ ap (λ x. bit_of x (j - at)) (sym is)
to-bits at id (content.To address) kind false j same is active low high = no-pointer false id active refl

module _ {program : Program} {planes : List Plane} where
  pub leaf-bits : {at : ℕ} {type : Ty} {tree : Tree} {leaves : List Leaf} → HasLeaves program planes at type tree leaves → (kind : LeafKind) (is : LeafContent) (shown : Bool) (j : ℕ)
      → leaf_kind type ≡ Some kind → IsContentOf is tree → (shown ≡ true) ⊎ (without_pointers tree ≡ tree) → at ≤ j → j < at + width_of kind
      → list_any (is_set_in itself j) (seen shown leaves) ≡ bit_of (bits_of kind is) (j - at)
  leaf-bits (HasLeaves.number {at} {scalar} {n}) kind is shown j e means active low high =
      number-bits at (8 * bytes_of scalar) n is kind shown j (ap width_of (number-kind (is_signed scalar) (8 * bytes_of scalar) kind e)) means low high
  leaf-bits (HasLeaves.bits {at} {unit} {width} {n}) kind is shown j e means active low high = number-bits at width n is kind shown j (ap width_of (bits-kind _ (is_signed unit) width kind e)) means low high
  leaf-bits (HasLeaves.opaque {at} {size} {align} {bytes}) kind is shown j e means active low high = bytes-bits at bytes is kind shown j (ap width_of (opaque-kind size kind e).1) means low high
  leaf-bits (HasLeaves.null {at} {type} p) kind is shown j e means active low high = null-bits at is kind shown j (ap width_of (pointer-is type kind p e)) means low high
  leaf-bits (HasLeaves.to {at} {type} {id} p) kind is shown j e means active low high = to-bits at id is kind shown j (ap width_of (pointer-is type kind p e)) means active low high
  leaf-bits (HasLeaves.struct h u g fields) kind is shown j e means active low high = absurd (cc)
  leaf-bits (HasLeaves.member h u g inner) kind is shown j e means active low high = absurd (cc)
  leaf-bits (HasLeaves.common h u c inner) kind is shown j e means active low high = absurd (cc)
  leaf-bits (HasLeaves.nothing h u n) kind is shown j e means active low high = absurd (cc)
  leaf-bits (HasLeaves.array {type} {elem} {n} o each) kind is shown j e means active low high = none-is type kind (array-kind type elem n o) e
  leaf-bits (HasLeaves.tail {type} {elem} {length = long} o each) kind is shown j e means active low high = none-is type kind (tail-kind type elem long o) e
