-- Numbers of one type that have the same bits are the same.
use Rattle.std.proofs.Common.{◌≡◌, ℕ, zero, suc, ◌+◌, ◌-◌, ◌*◌, ◌^◌, ◌<◌, ◌≤◌, Bool, true, false, ◌&&◌, IsTrue, nat_le, List, refl, ap, sym, subst, ◌∙◌, arith}
use Rattle.std.specs.Prelude.{ℤ, pos, negsuc}
use Rattle.std.proofs.Math.Nat.{pow-succ'}
use Rattle.std.proofs.lemmas.Bool.{ltb-true, leb-true}
use Rattle.gt_types.specs.declared.types.Width.TheVariants.{W1, W2, W4, W8}
use Rattle.gt_types.specs.declared.types.Scalar.{Scalar}
use Rattle.gt_types.specs.declared.types.Scalar.TheVariants as scalar
use Rattle.gt_types.specs.declared.types.TypeId.{TypeId}
use Rattle.gt_types.specs.declared.types.Ty.{Ty}
use Rattle.gt_types.specs.declared.types.Ty.TheVariants as ty
use Rattle.gt_types.specs.declared.types.Ty.TheVariants.{outs-Bits}
use Rattle.gt_types.specs.declared.program.Program.{Program}
use Rattle.gt_types.specs.Shapes.{bits_of, field_type_at, is_field_type}
use Rattle.gt_types.specs.Settled.{Settled, IsField}
use Rattle.gt_layout.specs.declared.planes.Plane.{Plane}
use Rattle.gt_layout.specs.Storages.{bytes_of}
use Rattle.gt_tree.specs.Numbers.{is_signed, has_room, two's_complement}
use Rattle.gt_tree.specs.PathLaws.{StepBit, PathBit, last_bit, next_bit, number_width, has_room_in}
use Rattle.gt_tree.proofs.PathParts.{All-at}

-- ---- numbers

half-power : (width : ℕ) → 1 ≤ width → 2 ^ width ≡ 2 * 2 ^ (width - 1)
half-power zero h = absurd (omega arith)
half-power (suc k) h =
    let e : suc k - 1 ≡ k = omega arith in
    pow-succ' 2 k ∙ ap (λ n. 2 * 2 ^ n) (sym e)

same-negative : (p a b : ℕ) → a < p → b < p → 2 * p - (a + 1) ≡ 2 * p - (b + 1) → a ≡ b
same-negative p a b x y e = omega arith

two-signs : (p a b : ℕ) → a < p → b < p → a ≡ 2 * p - (b + 1) → ⊥
two-signs p a b x y e = omega arith

negative-bits : (width a : ℕ) → 1 ≤ width → 2 ^ width - (a + 1) ≡ 2 * 2 ^ (width - 1) - (a + 1)
negative-bits width a some = ap (λ n. n - (a + 1)) (half-power width some)

same-unsigned : (room width : ℕ) (n m : ℤ) → IsTrue (has_room false room n) → IsTrue (has_room false room m) → two's_complement width n ≡ two's_complement width m → n ≡ m
same-unsigned room width (pos a) (pos b) x y e = ap pos e
same-unsigned room width (pos a) (negsuc b) x y e = absurd (cc)
same-unsigned room width (negsuc a) m x y e = absurd (cc)

same-signed : (width : ℕ) (n m : ℤ) → 1 ≤ width → IsTrue (has_room true width n) → IsTrue (has_room true width m) → two's_complement width n ≡ two's_complement width m → n ≡ m
same-signed width (pos a) (pos b) some x y e = ap pos e
same-signed width (pos a) (negsuc b) some x y e =
    absurd (two-signs (2 ^ (width - 1)) a b (ltb-true a (2 ^ (width - 1)) x) (ltb-true b (2 ^ (width - 1)) y) (e ∙ negative-bits width b some))
same-signed width (negsuc a) (pos b) some x y e =
    absurd (two-signs (2 ^ (width - 1)) b a (ltb-true b (2 ^ (width - 1)) y) (ltb-true a (2 ^ (width - 1)) x) (sym e ∙ negative-bits width a some))
same-signed width (negsuc a) (negsuc b) some x y e =
    ap negsuc (same-negative (2 ^ (width - 1)) a b (ltb-true a (2 ^ (width - 1)) x) (ltb-true b (2 ^ (width - 1)) y) (sym (negative-bits width a some) ∙ e ∙ negative-bits width b some))

same-number_of : (signed : Bool) (width : ℕ) (n m : ℤ) → 1 ≤ width → IsTrue (has_room signed width n) → IsTrue (has_room signed width m) → two's_complement width n ≡ two's_complement width m → n ≡ m
same-number_of true width n m some x y e = same-signed width n m some x y e
same-number_of false width n m some x y e = same-unsigned width width n m x y e

same-scalar : (number : Scalar) (n m : ℤ) → IsTrue (has_room (is_signed number) (bits_of number) n) → IsTrue (has_room (is_signed number) (bits_of number) m)
    → two's_complement (8 * bytes_of number) n ≡ two's_complement (8 * bytes_of number) m → n ≡ m
same-scalar scalar.Bool n m x y e = same-unsigned 1 8 n m x y e
same-scalar (scalar.Int W1 signed) n m x y e = same-number_of signed 8 n m (omega arith) x y e
same-scalar (scalar.Int W2 signed) n m x y e = same-number_of signed 16 n m (omega arith) x y e
same-scalar (scalar.Int W4 signed) n m x y e = same-number_of signed 32 n m (omega arith) x y e
same-scalar (scalar.Int W8 signed) n m x y e = same-number_of signed 64 n m (omega arith) x y e

first-true : (a b : Bool) → IsTrue (a && b) → IsTrue a
first-true true b h = refl
first-true false b h = absurd (cc)

some-bits : (unit : Scalar) (count : ℕ) → IsTrue (is_field_type (ty.Bits unit count)) → 1 ≤ count
some-bits unit count h =
    let layer : IsTrue (nat_le 1 count && nat_le count (bits_of unit)) = subst (λ x. IsTrue (field_type_at x)) (outs-Bits unit count) h in
    leb-true 1 count (first-true (nat_le 1 count) (nat_le count (bits_of unit)) layer)

-- numbers of the type of a field
pub same-typed : (type : Ty) (n m : ℤ) → IsTrue (is_field_type type) → IsTrue (has_room_in type n) → IsTrue (has_room_in type m)
    → two's_complement (number_width type) n ≡ two's_complement (number_width type) m → n ≡ m
same-typed (ty.Num number) n m field x y e = same-scalar number n m x y e
same-typed (ty.Bits unit count) n m field x y e = same-number_of (is_signed unit) count n m (some-bits unit count field) x y e
same-typed type n m field x y e = absurd (cc)

-- ---- the type at the end of a path is that of a field

step-field : (program : Program) (planes : List Plane) → Settled program → (node : TypeId) (name : List ℕ) (bit : ℕ) (type : Ty) → StepBit program planes node name bit type → IsTrue (is_field_type type)
step-field program planes settled node name bit type a =
    let field = All-at (IsField program node a.s) a.s.fields a.place a.f a.field (settled.structures node a.s a.has).fields in
    subst (λ t. IsTrue (is_field_type t)) (sym a.is_type) field.shape

pub path-field : (program : Program) (planes : List Plane) → Settled program → {node : TypeId} {steps : List (List ℕ)} {bit : ℕ} {type : Ty} → PathBit program planes node steps bit type → IsTrue (is_field_type type)
path-field program planes settled (last_bit {node} {name} {bit} {type} a) = step-field program planes settled node name bit type a
path-field program planes settled (next_bit a rest) = path-field program planes settled rest
