-- What leaves hold in bytes.
use Rattle.std.proofs.Common.{◌≡◌, ℕ, suc, ◌+◌, ◌-◌, ◌*◌, ◌/◌, ◌%◌, ◌<◌, ◌≤◌, Bool, true, false, cond, nat_lt, List, [], ◌∷◌, length, drop, get_or, refl, ap, sym, subst, ◌∙◌, arith, length-drop, Some, None}
use Rattle.std.specs.Prelude.{◌==◌, All, pos}
use Rattle.std.proofs.lemmas.Bool.{ltb-true, ltb-false}
use Rattle.std.proofs.lemmas.List.{get_or-drop}
use Rattle.std.proofs.lemmas.List.Elements.{All-head, All-tail}
use Rattle.gt_types.specs.declared.types.Ty.{Ty}
use Rattle.gt_types.specs.declared.types.Ty.TheVariants as ty
use Rattle.gt_types.specs.declared.program.Program.{Program}
use Rattle.gt_types.specs.Shapes.{is_number, is_pointer}
use Rattle.gt_space.specs.Range.{Range}
use Rattle.gt_tree.specs.Trees.{Tree, Null, To, Raw}
use Rattle.gt_tree.specs.Leaves.{leaf, Number as NumberLeaf, bit_of, byte_leaves}
use Rattle.gt_tree.specs.FixedLaws.{bit_in}
use Rattle.gt_tree.proofs.PathBegins.{one-number}
use Rattle.gt_tree.proofs.FixedParts.{is-opaque}
use Rattle.gt_tree.proofs.FixedRead.{IsRead, read-opaque}
use Rattle.gt_tree.proofs.FixedSame.{Got}
use Rattle.gt_value.specs.declared.places.Place.{Place}
use Rattle.gt_value.specs.declared.places.LeafKind.{LeafKind}
use Rattle.gt_value.specs.declared.places.LeafKind.TheVariants.{Number, Pointer}
use Rattle.gt_value.specs.declared.places.LeafContent.TheVariants as content
use Rattle.gt_value.specs.declared.sources.Around.{Around}
use Rattle.gt_value.specs.declared.sources.Source.{Source}
use Rattle.gt_value.specs.Bytes.{itself}
use Rattle.gt_value.specs.Reading.{Stands, shape_of, bits_from, bits_number, number_from}
use Rattle.gt_value.specs.Places.{Part, HasBits, IsContentOf, IsPlaceOfPart, content_of, pointer_of, leaf_kind, length_there, kind_of_shape}
use Rattle.gt_value.proofs.BitNumbers.{bits_number-below, bits_number-bit, bits_number-is, fit}
use Rattle.gt_value.proofs.LeafReads.{held-number, number-here, pointer-here, no-pointer, opaque-inside}

-- what holds of a leaf of a type
abbrev pub Holds : Source → Around → ℕ → Tree → LeafKind → Type 0
Holds source around at value kind =
    HasBits source.space.now source.from at kind × IsContentOf (content_of (bits_from source.space.now source.from) at kind around.whole) value

kind-same : (source : Source) (around : Around) (at : ℕ) (value : Tree) (a b : LeafKind) → a ≡ b → Holds source around at value a → Holds source around at value b
kind-same source around at value a b e h = subst (λ k. Holds source around at value k) e h

number-holds : (source : Source) (around : Around) (type : Ty) (at : ℕ) (value : Tree) (kind : LeafKind) → is_number type ≡ true → kind_of_shape (shape_of type) ≡ Some kind → Stands source around type at value → Holds source around at value kind
number-holds source around type at value kind n k s =
    let found = number-here source around type at value s n in
    let shape = found.0 in
    let number = number_from shape.signed shape.width (bits_number (bits_from source.space.now source.from) at shape.width) in
    let is : Some (Number shape.signed shape.width) ≡ Some kind = ap kind_of_shape (sym found.1) ∙ k in
    let same : Number shape.signed shape.width ≡ kind = cc in
    kind-same source around at value (Number shape.signed shape.width) kind same
    ((shape.width, (refl, found.2.some, found.2.few), found.2.inside), subst (λ v. IsContentOf (content.Num number) v) found.2.is refl)

-- ---- eight bytes

bytes-bits : (bits : ℕ → Bool) (whole : Bool) (at : ℕ) (bytes : List ℕ) → All (Got itself bits whole) (byte_leaves at bytes) → (i : ℕ) → i < 8 * length bytes → bits (at + i) ≡ bit_in bytes i
bytes-bits bits whole at [] all i lt = absurd (omega arith)
bytes-bits bits whole at (byte ∷ bytes) all i lt = go (nat_lt i 8) refl (bytes-bits bits whole (at + 8) bytes (All-tail (Got itself bits whole) (leaf at 8 (NumberLeaf (pos byte))) (byte_leaves (at + 8) bytes) all) (i - 8))
  where
    go : (t : Bool) → nat_lt i 8 ≡ t → (i - 8 < 8 * length bytes → bits (at + 8 + (i - 8)) ≡ bit_in bytes (i - 8)) → bits (at + i) ≡ bit_in (byte ∷ bytes) i
    go true e later =
        let low = ltb-true i 8 e in
        let first = held-number itself bits whole at 8 (pos byte) (All-head (Got itself bits whole) (leaf at 8 (NumberLeaf (pos byte))) (byte_leaves (at + 8) bytes) all) i low in
        let q : 0 ≡ i / 8 = omega arith in
        let r : i ≡ i % 8 = omega arith in
        first ∙ ap (λ k. bit_of byte k) r ∙ ap (λ k. bit_of (get_or (byte ∷ bytes) k 0) (i % 8)) q
    go false e later =
        let high = ltb-false i 8 e in
        let there : at + i ≡ at + 8 + (i - 8) = omega (arith, high) in
        let q : suc ((i - 8) / 8) ≡ i / 8 = omega (arith, high) in
        let r : (i - 8) % 8 ≡ i % 8 = omega (arith, high) in
        ap bits there ∙ later (omega (arith, high, lt)) ∙ ap (λ k. bit_of (get_or bytes ((i - 8) / 8) 0) k) r ∙ ap (λ k. bit_of (get_or (byte ∷ bytes) k 0) (i % 8)) q

cond-some : {X : Type 0} (b : Bool) (x y : X) → cond b (Some x) None ≡ Some y → (b ≡ true) × (x ≡ y)
cond-some true x y e = (refl, (cc))
cond-some false x y e = absurd (cc)

opaque-holds : (source : Source) (around : Around) (size align at : ℕ) (value : Tree) (kind : LeafKind) → leaf_kind (ty.Opaque size align) ≡ Some kind → Stands source around (ty.Opaque size align) at value → Holds source around at value kind
opaque-holds source around size align at value kind k s =
    let bits = bits_from source.space.now source.from in
    let held = Got itself bits around.whole in
    let eight = cond-some (size == 8) (Number true 64) kind k in
    let is : size ≡ 8 = one-number size 8 eight.0 in
    let found = is-opaque size align value s.fits in
    let long : length found.0 ≡ 8 = found.2 ∙ is in
    let read = subst (λ v. IsRead source.program.now source.layouts.now.structures held at (ty.Opaque size align) v) found.1 s.read in
    let leaves = read-opaque held size align found.0 read.0 read.1 read.2 in
    let n = bits_number bits at 64 in
    let f = fit true 64 n (omega arith) (bits_number-below bits at 64) in
    let inside = opaque-inside source around size align at value s in
    let holds : IsContentOf (content.Num (number_from true 64 n)) (Raw found.0) =
    (long, f.room, λ i lt. ap (λ m. bit_of m i) f.same ∙ bits_number-bit bits at 64 i lt ∙ bytes-bits bits around.whole at found.0 leaves i (omega (arith, long, lt))) in
    kind-same source around at value (Number true 64) kind eight.1
    ((64, (refl, omega arith, omega arith), omega (arith, inside, is)), subst (λ v. IsContentOf (content.Num (number_from true 64 n)) v) (sym found.1) holds)

-- ---- pointers

pointer-content : (n : ℕ) (value : Tree) (b : Bool) → (n == 0) ≡ b → (n ≡ 0 → Null ≡ value) → ((n ≡ 0 → ⊥) → To n ≡ value) → IsContentOf (cond b content.Null (content.To n)) value
pointer-content n value true e null to = subst (λ v. IsContentOf content.Null v) (null (one-number n 0 e)) tt
pointer-content n value false e null to = subst (λ v. IsContentOf (content.To n) v) (to (λ z. let t : (n == 0) ≡ true = ap (λ k. k == 0) z in cc)) refl

pointer-holds : (source : Source) (around : Around) (type : Ty) (at : ℕ) (value : Tree) (w : Bool) → around.whole ≡ w → is_pointer type ≡ true → Stands source around type at value
    → IsContentOf (content_of (bits_from source.space.now source.from) at Pointer w) value
pointer-holds source around type at value true w p s =
    let there = pointer-here source around type at value s p w in
    let n = bits_number (bits_from source.space.now source.from) at 64 in
    pointer-content n value (n == 0) refl there.null there.to
pointer-holds source around type at value false w p s = subst (λ v. IsContentOf content.Null v) (no-pointer source around type at value s p w) tt

pointer-kind : (source : Source) (around : Around) (type : Ty) (at : ℕ) (value : Tree) (kind : LeafKind) → is_pointer type ≡ true → Some Pointer ≡ Some kind → Stands source around type at value → Holds source around at value kind
pointer-kind source around type at value kind p k s =
    let same : Pointer ≡ kind = cc in
    let le = Rattle.gt_tree.proofs.Rooms.room-pointer type s.width p s.room in
    kind-same source around at value Pointer kind same ((64, refl, omega (arith, le, s.inside)), pointer-holds source around type at value around.whole refl p s)

-- a leaf that stands holds what it is
pub word-holds : (source : Source) (around : Around) (type : Ty) (at : ℕ) (value : Tree) (kind : LeafKind) → leaf_kind type ≡ Some kind → Stands source around type at value → Holds source around at value kind
word-holds source around (ty.Num number) at value kind k s = number-holds source around (ty.Num number) at value kind refl k s
word-holds source around (ty.Bits unit width) at value kind k s = number-holds source around (ty.Bits unit width) at value kind refl k s
word-holds source around (ty.Opaque size align) at value kind k s = opaque-holds source around size align at value kind k s
word-holds source around (ty.Str count) at value kind k s = pointer-kind source around (ty.Str count) at value kind refl k s
word-holds source around (ty.Ptr target pointer reorder) at value kind k s = pointer-kind source around (ty.Ptr target pointer reorder) at value kind refl k s
word-holds source around type at value kind k s = absurd (cc)

-- ---- the same bits from another byte

pub same-number : (bits other : ℕ → Bool) (at there width : ℕ) → ((i : ℕ) → bits (at + i) ≡ other (there + i)) → bits_number bits at width ≡ bits_number other there width
same-number bits other at there width h =
    bits_number-is other there width (bits_number bits at width) (bits_number-below bits at width) (λ i lt. sym (h i) ∙ sym (bits_number-bit bits at width i lt))

pub same-content : (bits other : ℕ → Bool) (at there : ℕ) (kind : LeafKind) (active : Bool) → ((i : ℕ) → bits (at + i) ≡ other (there + i)) → content_of bits at kind active ≡ content_of other there kind active
same-content bits other at there (Number signed width) active h = ap (λ n. content.Num (number_from signed width n)) (same-number bits other at there width h)
same-content bits other at there Pointer true h = ap pointer_of (same-number bits other at there 64 h)
same-content bits other at there Pointer false h = refl

pub shifted-bits : (range : Range) (from at i : ℕ) → bits_from range from (at + i) ≡ bits_from range (from + at / 8) (at % 8 + i)
shifted-bits range from at i =
    let e : from + (at + i) / 8 ≡ from + at / 8 + (at % 8 + i) / 8 = omega arith in
    let r : (at + i) % 8 ≡ (at % 8 + i) % 8 = omega arith in
    ap (λ b. bit_of b ((at + i) % 8)) (get_or-drop from range.bytes ((at + i) / 8) 0 ∙ ap (λ k. get_or range.bytes k 0) e ∙ sym (get_or-drop (from + at / 8) range.bytes ((at % 8 + i) / 8) 0))
    ∙ ap (λ k. bit_of (get_or (drop (from + at / 8) range.bytes) ((at % 8 + i) / 8) 0) k) r

pub shifted-inside : (range : Range) (from at : ℕ) (kind : LeafKind) → HasBits range from at kind → HasBits range (from + at / 8) (at % 8) kind
shifted-inside range from at kind (width, is, inside) =
    let a = length-drop from range.bytes in
    let b = length-drop (from + at / 8) range.bytes in
    (width, is, omega (arith, a, b, inside))

-- the bits and the content of a leaf, by its address
pub placed-bits : (space range : Range) (from addr at : ℕ) (kind : LeafKind) → space ≡ range → from ≡ addr - range.start → range.start ≤ addr → HasBits space from at kind → HasBits range (addr + at / 8 - range.start) (at % 8) kind
placed-bits space range from addr at kind e f low h =
    let there : addr - range.start + at / 8 ≡ addr + at / 8 - range.start = omega (arith, low) in
    subst (λ k. HasBits range k (at % 8) kind) there
    (shifted-inside range (addr - range.start) at kind (subst (λ k. HasBits range k at kind) f (subst (λ r. HasBits r from at kind) e h)))

pub placed-content : (space range : Range) (from addr at : ℕ) (kind : LeafKind) (active : Bool) (tree : Tree) → space ≡ range → from ≡ addr - range.start → range.start ≤ addr
    → IsContentOf (content_of (bits_from space from) at kind active) tree → IsContentOf (content_of (bits_from range (addr + at / 8 - range.start)) (at % 8) kind active) tree
placed-content space range from addr at kind active tree e f low h =
    let there : addr - range.start + at / 8 ≡ addr + at / 8 - range.start = omega (arith, low) in
    subst (λ k. IsContentOf (content_of (bits_from range k) (at % 8) kind active) tree) there
    (subst (λ x. IsContentOf x tree) (same-content (bits_from range (addr - range.start)) (bits_from range (addr - range.start + at / 8)) at (at % 8) kind active (shifted-bits range (addr - range.start) at))
    (subst (λ k. IsContentOf (content_of (bits_from range k) at kind active) tree) f (subst (λ r. IsContentOf (content_of (bits_from r from) at kind active) tree) e h)))

-- a leaf of a space, at its place there
pub leaf-placed : (space range : Range) (program : Program) (from addr at : ℕ) (p : Part) (place : Place) → space ≡ range → from ≡ addr - range.start → range.start ≤ addr → at ≡ p.bit → place.addr ≡ addr + at / 8 → place.bit ≡ at % 8
    → leaf_kind p.type ≡ Some place.kind → place.active ≡ p.active → place.holder ≡ p.holder → place.length ≡ length_there program p.scope p.type
    → HasBits space from at place.kind → IsContentOf (content_of (bits_from space from) at place.kind place.active) p.tree → IsPlaceOfPart program range addr p place
leaf-placed space range program from addr at p place e f low bit a b kind active holder len bits holds = record {
  address_is = a ∙ ap (λ n. addr + n / 8) bit;
  bit_is = b ∙ ap (λ n. n % 8) bit;
  kind_is = kind;
  active_is = active;
  holder_is = holder;
  length_is = len;
  from_start = omega (arith, low, a);
  bits = subst (λ n. HasBits range (place.addr - range.start) n place.kind) (sym b) (subst (λ n. HasBits range (n - range.start) (at % 8) place.kind) (sym a) (placed-bits space range from addr at place.kind e f low bits));
  holds =
      subst (λ n. IsContentOf (content_of (bits_from range (place.addr - range.start)) n place.kind place.active) p.tree) (sym b)
      (subst (λ n. IsContentOf (content_of (bits_from range (n - range.start)) (at % 8) place.kind place.active) p.tree) (sym a) (placed-content space range from addr at place.kind place.active p.tree e f low holds));
}
