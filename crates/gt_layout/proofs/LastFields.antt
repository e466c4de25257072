-- Structs that end in an array with a length: no field ends after the array begins.
use Rattle.std.proofs.Common.{◌≡◌, ◌≤◌, ℕ, ◌+◌, ◌*◌, List, [], ◌∷◌, refl, ap, subst, ◌∙◌, arith, Some}
use Rattle.std.specs.Prelude.{All}
use Rattle.std.proofs.lemmas.List.Elements.{All-nil, All-cons, All-head, All-tail}
use Rattle.gt_types.specs.declared.expressions.Expr.{Expr}
use Rattle.gt_types.specs.declared.types.Ty.{Ty, out-Ty}
use Rattle.gt_types.specs.declared.types.Ty.TheFolds.{fold_out-Ty, map-Ty}
use Rattle.gt_types.specs.declared.types.Ty.TheOpen as part
use Rattle.gt_types.specs.declared.types.Ty.TheOpen.{Ty-F}
use Rattle.gt_types.specs.declared.types.Ty.TheVariants as ty
use Rattle.gt_types.specs.declared.types.Ty.TheVariants.{outs-Bits}
use Rattle.gt_types.specs.declared.program.Field.{Field}
use Rattle.gt_types.specs.Tails.{elements_at, elements_of, tail_of}
use Rattle.gt_layout.specs.declared.planes.Extent.{Extent}
use Rattle.gt_layout.specs.declared.planes.Plane.{Plane}
use Rattle.gt_layout.specs.declared.planes.FieldSpot.{FieldSpot}
use Rattle.gt_layout.specs.declared.storages.Storage.{Storage}
use Rattle.gt_layout.specs.declared.storages.Storage.TheVariants.{Bytes, Bits}
use Rattle.gt_layout.specs.Storages.{extent_of, extent_step, storage_of, storages_of}
use Rattle.gt_layout.specs.Places.{Follow, begin_at, end_at, end_of, ends, last_offset, spot_of}

tail-extent : (planes : List Plane) (type elem : Ty) (count : Expr) → out-Ty type ≡ part.Tail count elem → (extent_of planes type).size ≡ 0
tail-extent planes type elem count e = ap (λ (x : Extent). x.size) (fold_out-Ty Extent (extent_step planes) type ∙ ap (λ y. extent_step planes (map-Ty Ty Extent (extent_of planes) y)) e)

tail-type : (x : Ty-F Ty) (elem : Ty) → elements_at x ≡ Some elem → (count : Expr) × (x ≡ part.Tail count elem)
tail-type (part.Tail count inner) elem e = let same : inner ≡ elem = cc in (count, ap (part.Tail count) same)
tail-type x elem e = absurd (cc)

tail-storage : (planes : List Plane) (type elem : Ty) → elements_of type ≡ Some elem → storage_of planes type ≡ Bytes (extent_of planes type)
tail-storage planes (ty.Bits unit count) elem e = let o = ap elements_at (outs-Bits unit count) in absurd (cc)
tail-storage planes type elem e = refl

-- where bytes begin is told by their byte alone
byte-begin : (storage : Storage) (e : Extent) (s : FieldSpot) → storage ≡ Bytes e → s ≡ spot_of storage (begin_at s) → begin_at s ≡ 8 * s.offset
byte-begin storage e s is lies =
    let spot = subst (λ x. s ≡ spot_of x (begin_at s)) is lies in
    let bit : s.bit ≡ 0 = ap (λ (x : FieldSpot). x.bit) spot in
    omega (arith, bit)

grows : (storage : Storage) (begin : ℕ) → begin ≤ end_of storage begin
grows (Bytes e) begin = omega arith
grows (Bits unit count) begin = omega arith

-- no field of such a struct ends after its last one begins, which takes no bytes
pub record LastEnds (from : ℕ) (fields : List Storage) (spots : List FieldSpot) : Type 0 where
  pub after : from ≤ 8 * last_offset spots
  pub inside : All (λ end. end ≤ 8 * last_offset spots) (ends fields spots)
  pub least : (bound : ℕ) → All (λ end. end ≤ bound) (ends fields spots) → 8 * last_offset spots ≤ bound

pub last-ends : (planes : List Plane) (fs : List Field) (spots : List FieldSpot) (from : ℕ) (elem : Ty) → tail_of fs ≡ Some elem → Follow from (storages_of planes fs) spots → LastEnds from (storages_of planes fs) spots
last-ends planes [] spots from elem t h = absurd (cc)
last-ends planes (f ∷ []) [] from elem t h = absurd h
last-ends planes (f ∷ []) (s ∷ []) from elem t h =
    let storage = storage_of planes f.ty in
    let found = tail-type (out-Ty f.ty) elem t in
    let is = tail-storage planes f.ty elem t in
    let none = tail-extent planes f.ty elem found.0 found.1 in
    let begins = byte-begin storage (extent_of planes f.ty) s is h.1 in
    let ends_there : end_at storage s ≡ 8 * s.offset = ap (λ x. end_of x (begin_at s)) is ∙ ap (λ n. begin_at s + 8 * n) none ∙ omega (arith, begins) in
    let after = h.0.after in
    record {
      after = omega (arith, after, begins);
      inside = All-cons (λ end. end ≤ 8 * s.offset) (end_at storage s) [] (omega (arith, ends_there)) (All-nil (λ end. end ≤ 8 * s.offset));
      least = λ bound all. let le : end_at storage s ≤ bound = All-head (λ end. end ≤ bound) (end_at storage s) [] all in omega (arith, le, ends_there);
    }
last-ends planes (f ∷ []) (s ∷ r ∷ ss) from elem t h = absurd h.2
last-ends planes (f ∷ g ∷ fs) [] from elem t h = absurd h
last-ends planes (f ∷ g ∷ fs) (s ∷ []) from elem t h = absurd h.2
last-ends planes (f ∷ g ∷ fs) (s ∷ r ∷ ss) from elem t h =
    let storage = storage_of planes f.ty in
    let rest = last-ends planes (g ∷ fs) (r ∷ ss) (end_at storage s) elem t h.2 in
    let after = h.0.after in
    let own : begin_at s ≤ end_at storage s = grows storage (begin_at s) in
    let top = last_offset (r ∷ ss) in
    let others = ends (storages_of planes (g ∷ fs)) (r ∷ ss) in
    let later : end_at storage s ≤ 8 * top = rest.after in
    record {
      after = omega (arith, after, own, later);
      inside = All-cons (λ end. end ≤ 8 * top) (end_at storage s) others later rest.inside;
      least = λ bound all. rest.least bound (All-tail (λ end. end ≤ bound) (end_at storage s) others all);
    }
