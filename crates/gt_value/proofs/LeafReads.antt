-- Numbers, pointers and bytes that stand in bytes.
use Rattle.std.proofs.Common.{◌≡◌, ℕ, ◌+◌, ◌*◌, ◌^◌, ◌<◌, ◌≤◌, Bool, true, false, cond, ◌&&◌, nat_le, IsTrue, List, [], ◌∷◌, length, refl, ap, sym, subst, ◌∙◌, arith, Some, None, ◌⊎◌, inl, inr}
use Rattle.std.specs.Prelude.{◌≢◌, All, ℤ, pos, negsuc}
use Rattle.std.proofs.lemmas.Bool.{le-leb, lt-ltb, ltb-true}
use Rattle.std.proofs.lemmas.List.Elements.{All-head, All-tail}
use Rattle.gt_types.specs.declared.types.Scalar.{Scalar}
use Rattle.gt_types.specs.declared.types.Scalar.TheVariants as scalar
use Rattle.gt_types.specs.declared.types.Width.TheVariants.{W1, W2, W4, W8}
use Rattle.gt_types.specs.declared.types.Ty.{Ty}
use Rattle.gt_types.specs.declared.types.Ty.TheVariants as ty
use Rattle.gt_types.specs.Shapes.{bits_of, is_number, is_pointer}
use Rattle.gt_layout.specs.Storages.{bytes_of}
use Rattle.gt_tree.specs.Trees.{Tree, Num, Null, To, Raw}
use Rattle.gt_tree.specs.Numbers.{is_signed, has_room, two's_complement}
use Rattle.gt_tree.specs.Leaves.{leaf, Number, Pointer, bit_of, byte_leaves}
use Rattle.gt_tree.specs.LeafLaws.{IsTypeIn}
use Rattle.gt_tree.proofs.Rooms.{room-number, room-bits, room-opaque, room-pointer}
use Rattle.gt_tree.proofs.FixedTypes.{wide, narrow}
use Rattle.gt_tree.proofs.FixedParts.{is-number, is-bits, is-opaque, is-pointer}
use Rattle.gt_tree.proofs.FixedRead.{IsRead, read-number, read-bits, read-opaque, read-null, read-to}
use Rattle.gt_tree.proofs.FixedSame.{Got}
use Rattle.gt_value.specs.declared.sources.Shape.{Shape}
use Rattle.gt_value.specs.declared.sources.Around.{Around}
use Rattle.gt_value.specs.declared.sources.Source.{Source}
use Rattle.gt_value.specs.Bytes.{itself}
use Rattle.gt_value.specs.Reading.{Stands, given_in, shape, shape_of, bits_from, end_from, bits_number, byte_numbers, number_from}
use Rattle.gt_value.proofs.BitNumbers.{bits_number-is, number_from-is}
use Rattle.gt_value.proofs.Origins.{type-in}

-- ---- numbers

-- the bits of a number that is held
pub held-number : (address : ℕ → ℕ) (bits : ℕ → Bool) (whole : Bool) (at width : ℕ) (n : ℤ) → Got address bits whole (leaf at width (Number n)) → (i : ℕ) → i < width → bits (at + i) ≡ bit_of (two's_complement width n) i
held-number address bits true at width n h = h
held-number address bits false at width n h = h

more-room : (n : ℤ) → IsTrue (has_room false 1 n) → IsTrue (has_room false 8 n)
more-room (pos n) h = lt-ltb n (2 ^ 8) (let less : n < 2 ^ 1 = ltb-true n (2 ^ 1) h in omega arith)
more-room (negsuc n) h = h

-- a number has room in the bytes of its type
pub room-in_bytes : (number : Scalar) (n : ℤ) → IsTrue (has_room (is_signed number) (bits_of number) n) → IsTrue (has_room (is_signed number) (8 * bytes_of number) n)
room-in_bytes scalar.Bool n h = more-room n h
room-in_bytes (scalar.Int W1 signed) n h = h
room-in_bytes (scalar.Int W2 signed) n h = h
room-in_bytes (scalar.Int W4 signed) n h = h
room-in_bytes (scalar.Int W8 signed) n h = h

pub some-bytes : (number : Scalar) → (1 ≤ 8 * bytes_of number) × (8 * bytes_of number ≤ 64)
some-bytes scalar.Bool = (omega arith, omega arith)
some-bytes (scalar.Int W1 signed) = (omega arith, omega arith)
some-bytes (scalar.Int W2 signed) = (omega arith, omega arith)
some-bytes (scalar.Int W4 signed) = (omega arith, omega arith)
some-bytes (scalar.Int W8 signed) = (omega arith, omega arith)

pub few-bits : (number : Scalar) → bits_of number ≤ 64
few-bits scalar.Bool = omega arith
few-bits (scalar.Int W1 signed) = omega arith
few-bits (scalar.Int W2 signed) = omega arith
few-bits (scalar.Int W4 signed) = omega arith
few-bits (scalar.Int W8 signed) = omega arith

-- the shape of a bit-field that has some bits, and no more than 64
pub shape-of_bits : (unit : Scalar) (width : ℕ) → 1 ≤ width → width ≤ 64 → shape_of (ty.Bits unit width) ≡ Some (shape (is_signed unit) width)
shape-of_bits unit width some few =
    ap (λ b. cond (b && nat_le width 64) (Some (shape (is_signed unit) width)) None) (le-leb 1 width some)
    ∙ ap (λ b. cond b (Some (shape (is_signed unit) width)) None) (le-leb width 64 few)

-- a number of this shape stands at a bit
pub record NumberAt (source : Source) (at : ℕ) (s : Shape) (value : Tree) : Type 0 where
  pub inside : at + s.width ≤ end_from source.space.now source.from
  pub some : 1 ≤ s.width
  pub few : s.width ≤ 64
  pub is : Num (number_from s.signed s.width (bits_number (bits_from source.space.now source.from) at s.width)) ≡ value

pub number-here : (source : Source) (around : Around) (type : Ty) (at : ℕ) (value : Tree) → Stands source around type at value → is_number type ≡ true
    → (s : Shape) × (shape_of type ≡ Some s) × NumberAt source at s value
number-here source around (ty.Num number) at value stands h =
    let bits = bits_from source.space.now source.from in
    let held = Got itself bits around.whole in
    let found = is-number number value stands.fits in
    let read = subst (λ v. IsRead source.program.now source.layouts.now.structures held at (ty.Num number) v) found.1 stands.read in
    let width = 8 * bytes_of number in
    let le = room-number number stands.width stands.room in (
      shape (is_signed number) width,
      refl,
      record {
        inside = omega (arith, le, stands.inside);
        some = (some-bytes number).0;
        few = (some-bytes number).1;
        is = ap Num (number_from-is bits (is_signed number) at width found.0 (some-bytes number).0 (room-in_bytes number found.0 found.2)
            (held-number itself bits around.whole at width found.0 (read-number held number found.0 read.0 read.1 read.2)))
            ∙ sym found.1;
      },
    )
number-here source around (ty.Bits unit width) at value stands h =
    let bits = bits_from source.space.now source.from in
    let held = Got itself bits around.whole in
    let found = is-bits unit width value stands.fits in
    let read = subst (λ v. IsRead source.program.now source.layouts.now.structures held at (ty.Bits unit width) v) found.1 stands.read in
    let le = room-bits unit width stands.width stands.room in
    let x = stands.context in
    let in_program : IsTypeIn source.program.now (ty.Bits unit width) =
    elim (type-in source (given_in x) refl x.statics stands.typed) [ inl i ↦ i | inr i ↦ absurd (cc) ] in
    let some : 1 ≤ width = wide source.program.now unit width x.settled in_program in
    let few : width ≤ 64 = let small = narrow source.program.now unit width x.settled in_program in omega (arith, small, few-bits unit) in (
      shape (is_signed unit) width,
      shape-of_bits unit width some few,
      record {
        inside = omega (arith, le, stands.inside);
        some = some;
        few = few;
        is = ap Num (number_from-is bits (is_signed unit) at width found.0 some found.2 (held-number itself bits around.whole at width found.0 (read-bits held unit width found.0 read.0 read.1 read.2)))
            ∙ sym found.1;
      },
    )
number-here source around type at value stands h = absurd (cc)

-- ---- pointers

pub held-null : (bits : ℕ → Bool) (at : ℕ) → Got itself bits true (leaf at 64 (Pointer None)) → 0 ≡ bits_number bits at 64
held-null bits at h = bits_number-is bits at 64 0 (omega arith) h

pub held-to : (bits : ℕ → Bool) (at id : ℕ) → id < 2 ^ 64 → Got itself bits true (leaf at 64 (Pointer (Some id))) → id ≡ bits_number bits at 64
held-to bits at id small h = bits_number-is bits at 64 id small h

-- a pointer that is read stands at a bit
pub record PointerAt (source : Source) (at : ℕ) (value : Tree) : Type 0 where
  pub inside : at + 64 ≤ end_from source.space.now source.from
  pub null : bits_number (bits_from source.space.now source.from) at 64 ≡ 0 → Null ≡ value
  pub to : bits_number (bits_from source.space.now source.from) at 64 ≢ 0 → To (bits_number (bits_from source.space.now source.from) at 64) ≡ value

pub pointer-here : (source : Source) (around : Around) (type : Ty) (at : ℕ) (value : Tree) → Stands source around type at value → is_pointer type ≡ true → around.whole ≡ true → PointerAt source at value
pointer-here source around type at value stands p whole = go (is-pointer type value p stands.fits)
  where
    bits : ℕ → Bool
    bits = bits_from source.space.now source.from

    inside : at + 64 ≤ end_from source.space.now source.from
    inside = let le = room-pointer type stands.width p stands.room in omega (arith, le, stands.inside)

    read-as : (v : Tree) → value ≡ v → IsRead source.program.now source.layouts.now.structures (Got itself (bits_from source.space.now source.from) true) at type v
    read-as v e =
        subst (λ w. IsRead source.program.now source.layouts.now.structures (Got itself (bits_from source.space.now source.from) w) at type v) whole
        (subst (λ x. IsRead source.program.now source.layouts.now.structures (Got itself (bits_from source.space.now source.from) around.whole) at type x) e stands.read)

    go : (value ≡ Null) ⊎ ((id : ℕ) × (value ≡ To id) × (b : _) × (stands.context.blocks id ≡ Some b)) → PointerAt source at value
    go (inl e) =
        let read = read-as Null e in
        let is = held-null (bits_from source.space.now source.from) at (read-null (Got itself (bits_from source.space.now source.from) true) type read.0 read.1 read.2) in
        record { inside = inside; null = λ h. sym e; to = λ h. absurd (h (sym is)) }
    go (inr (id, e, b, there)) =
        let read = read-as (To id) e in
        let low = stands.context.addresses.not_null id b there in
        let is = held-to (bits_from source.space.now source.from) at id (stands.context.addresses.small id b there) (read-to (Got itself (bits_from source.space.now source.from) true) type id read.0 read.1 read.2) in
        record { inside = inside; null = λ h. absurd (omega (arith, low, is, h)); to = λ h. ap To (sym is) ∙ sym e }

pub no-pointer : (source : Source) (around : Around) (type : Ty) (at : ℕ) (value : Tree) → Stands source around type at value → is_pointer type ≡ true → around.whole ≡ false → Null ≡ value
no-pointer source around type at value stands p whole = go (is-pointer type value p stands.fits)
  where
    go : (value ≡ Null) ⊎ ((id : ℕ) × (value ≡ To id) × (b : _) × (stands.context.blocks id ≡ Some b)) → Null ≡ value
    go (inl e) = sym e
    go (inr (id, e, b, there)) =
        let read = subst (λ w. IsRead source.program.now source.layouts.now.structures (Got itself (bits_from source.space.now source.from) w) at type (To id)) whole
        (subst (λ x. IsRead source.program.now source.layouts.now.structures (Got itself (bits_from source.space.now source.from) around.whole) at type x) e stands.read) in
        let none = read-to (Got itself (bits_from source.space.now source.from) false) type id read.0 read.1 read.2 in
        absurd (cc)

-- the number at a bit, by the shape that the code has found
pub number-shaped : (source : Source) (around : Around) (type : Ty) (at : ℕ) (s : Shape) (value : Tree) → is_number type ≡ true → shape_of type ≡ Some s → Stands source around type at value → NumberAt source at s value
number-shaped source around type at s value h e stands =
    let found = number-here source around type at value stands h in
    let same : found.0 ≡ s = let other = found.1 in cc in
    subst (λ x. NumberAt source at x value) same found.2

pub some-shape : (source : Source) (around : Around) (type : Ty) (at : ℕ) (value : Tree) → is_number type ≡ true → Stands source around type at value → shape_of type ≡ None → ⊥
some-shape source around type at value h stands e =
    let found = number-here source around type at value stands h in
    let other = found.1 in
    cc

-- ---- bytes that are never scanned

bytes-are : (bits : ℕ → Bool) (whole : Bool) (at : ℕ) (bytes : List ℕ) → All (λ byte. byte < 256) bytes → All (Got itself bits whole) (byte_leaves at bytes) → byte_numbers bits at (length bytes) ≡ bytes
bytes-are bits whole at [] small all = refl
bytes-are bits whole at (byte ∷ bytes) small all =
    let held = Got itself bits whole in
    let first = leaf at 8 (Number (pos byte)) in
    let here = bits_number-is bits at 8 byte (All-head (λ b. b < 256) byte bytes small) (held-number itself bits whole at 8 (pos byte) (All-head held first (byte_leaves (at + 8) bytes) all)) in
    let rest = bytes-are bits whole (at + 8) bytes (All-tail (λ b. b < 256) byte bytes small) (All-tail held first (byte_leaves (at + 8) bytes) all) in
    ap (λ xs. bits_number bits at 8 ∷ xs) rest ∙ ap (λ b. b ∷ bytes) (sym here)

pub opaque-inside : (source : Source) (around : Around) (size align at : ℕ) (value : Tree) → Stands source around (ty.Opaque size align) at value → at + 8 * size ≤ end_from source.space.now source.from
opaque-inside source around size align at value stands = let le = room-opaque size align stands.width stands.room in omega (arith, le, stands.inside)

pub opaque-here : (source : Source) (around : Around) (size align at : ℕ) (value : Tree) → Stands source around (ty.Opaque size align) at value
    → Raw (byte_numbers (bits_from source.space.now source.from) at size) ≡ value
opaque-here source around size align at value stands =
    let bits = bits_from source.space.now source.from in
    let held = Got itself bits around.whole in
    let found = is-opaque size align value stands.fits in
    let read = subst (λ v. IsRead source.program.now source.layouts.now.structures held at (ty.Opaque size align) v) found.1 stands.read in
    ap (λ n. Raw (byte_numbers bits at n)) (sym found.2)
    ∙ ap Raw (bytes-are bits around.whole at found.0 found.3 (read-opaque held size align found.0 read.0 read.1 read.2))
    ∙ sym found.1
