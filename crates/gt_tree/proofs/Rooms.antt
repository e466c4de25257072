-- How many bits a value of a type may take, and where the fields of a structure lie by that.
use Rattle.std.proofs.Common.{◌≡◌, ℕ, ◌+◌, ◌*◌, ◌≤◌, Bool, true, false, not, ◌&&◌, IsTrue, List, [], ◌∷◌, refl, ap, sym, subst, ◌∙◌, arith, Option, Some, None, map}
use Rattle.std.specs.Prelude.{All}
use Rattle.std.proofs.lemmas.List.Elements.{All-nil, All-cons, All-head, All-tail}
use Rattle.gt_types.specs.declared.expressions.Expr.{Expr}
use Rattle.gt_types.specs.declared.types.TypeId.{TypeId}
use Rattle.gt_types.specs.declared.types.Scalar.{Scalar}
use Rattle.gt_types.specs.declared.types.Ty.{Ty, out-Ty}
use Rattle.gt_types.specs.declared.types.Ty.TheOpen as part
use Rattle.gt_types.specs.declared.types.Ty.TheOpen.{Ty-F}
use Rattle.gt_types.specs.declared.types.Ty.TheVariants as ty
use Rattle.gt_types.specs.declared.types.Ty.TheVariants.{outs-Num, outs-Bits, outs-Opaque, outs-Str, outs-Ptr, outs-Node, outs-Arr', outs-Tail'}
use Rattle.gt_types.specs.declared.program.Field.{Field}
use Rattle.gt_types.specs.declared.program.Program.{Program}
use Rattle.gt_types.specs.Shapes.{is_pointer, is_tail, is_field_type}
use Rattle.gt_types.specs.Contains.{held_by}
use Rattle.gt_types.specs.Tails.{IsTailType, elements_at, elements_of, tail_of, only_last_is_tail, no_tails}
use Rattle.gt_layout.specs.declared.planes.Plane.{Plane}
use Rattle.gt_layout.specs.declared.planes.FieldSpot.{FieldSpot}
use Rattle.gt_layout.specs.declared.storages.Storage.{Storage}
use Rattle.gt_layout.specs.declared.storages.Storage.TheVariants.{Bytes}
use Rattle.gt_layout.specs.Storages.{bytes_of, extent_of, storage_of, storages_of}
use Rattle.gt_layout.specs.Places.{begin_at, end_at, end_of, Follow, Overlap, Lie, last_offset}
use Rattle.gt_layout.specs.Places.{ends as ends_at}
use Rattle.gt_layout.specs.Capacity.{SizeAt}
use Rattle.gt_tree.specs.Fits.{types_of}
use Rattle.gt_tree.proofs.Types.{Plain, Plain-elem, Plain-field, Plain-tail, plain_at, bits_in, end_of-bits, extent-number, extent-opaque, extent-node, extent-array, extent-pointer, held-node, storage-plain}

-- A value of a type takes at most so many bits: those of its type, of a structure those of its size at the capacity, of an array
-- with a length those of as many elements.
pub data Room (program : Program) (planes : List Plane) (capacity : ℕ) : Ty → ℕ → Type 0 where
  plain : {type : Ty} → Plain program type → Room program planes capacity type (8 * (extent_of planes type).size)
  bits : {unit : Scalar} {width : ℕ} → Room program planes capacity (ty.Bits unit width) width
  sized : {node : TypeId} {desc : Option Expr} {size : ℕ} → SizeAt program planes capacity node size → Room program planes capacity (ty.Node node desc) (8 * size)
  tail : {type elem : Ty} {length : Expr} → out-Ty type ≡ part.Tail length elem → Plain program elem → Room program planes capacity type (8 * (capacity * (extent_of planes elem).size))

-- values of these types at these places have such room, one after another
pub data Laid (program : Program) (planes : List Plane) (capacity : ℕ) : ℕ → List Ty → List FieldSpot → ℕ → Type 0 where
  none : {from end : ℕ} → from ≤ end → Laid program planes capacity from [] [] end
  more : {from end width : ℕ} {type : Ty} {types : List Ty} {s : FieldSpot} {spots : List FieldSpot} → from ≤ begin_at s → Room program planes capacity type width
      → Laid program planes capacity (begin_at s + width) types spots end → Laid program planes capacity from (type ∷ types) (s ∷ spots) end

-- what a program says of the type of a field, by its shape and by what it holds
pub record Sound (program : Program) (type : Ty) : Type 0 where
  pub shape : IsTrue (is_field_type type)
  pub whole : (node : TypeId) → held_by type ≡ Some node → ¬ IsTailType program node

no_pointer_tail : (type elem : Ty) (length : Expr) → IsTrue (is_pointer type) → ¬ (out-Ty type ≡ part.Tail length elem)
no_pointer_tail (ty.Str count) elem length h e = let o = outs-Str count in cc
no_pointer_tail (ty.Ptr target kind reorder) elem length h e = let o = outs-Ptr target kind reorder in cc
no_pointer_tail type elem length h e = cc

tail-elements : (x : Ty-F Ty) (elem : Ty) → elements_at x ≡ Some elem → (length : Expr) × (x ≡ part.Tail length elem)
tail-elements (part.Tail length e) elem h = let same : e ≡ elem = cc in (length, ap (part.Tail length) same)
tail-elements (part.Num scalar) elem h = absurd (cc)
tail-elements x elem h = absurd (cc)

storage-tail : (planes : List Plane) (type elem : Ty) (length : Expr) → out-Ty type ≡ part.Tail length elem → storage_of planes type ≡ Bytes (extent_of planes type)
storage-tail planes (ty.Bits unit width) elem length e = let o = outs-Bits unit width in absurd (cc)
storage-tail planes type elem length e = refl

no_bit : (storage : Storage) (s : FieldSpot) (e : _) → storage ≡ Bytes e → s ≡ Rattle.gt_layout.specs.Places.spot_of storage (begin_at s) → s.bit ≡ 0
no_bit storage s e b h = ap (λ x. x.bit) (h ∙ ap (λ x. Rattle.gt_layout.specs.Places.spot_of x (begin_at s)) b)

not-false : (b : Bool) (c : Bool) → IsTrue (not b && c) → (b ≡ false) × IsTrue c
not-false false c h = (refl, h)
not-false true c h = absurd (cc)

is_tail-none : (type : Ty) → elements_of type ≡ None → is_tail type ≡ false
is_tail-none (ty.Tail' count shape elem) h = let o = ap elements_at (outs-Tail' count shape elem) in absurd (cc)
is_tail-none (ty.Num scalar) h = refl
is_tail-none type h = refl

pub no_tails-none : (fields : List Field) → tail_of fields ≡ None → IsTrue (only_last_is_tail fields) → All (λ f. is_tail f.ty ≡ false) fields
no_tails-none [] h last = All-nil (λ f. is_tail f.ty ≡ false)
no_tails-none (f ∷ []) h last = All-cons (λ f. is_tail f.ty ≡ false) f [] (is_tail-none f.ty h) (All-nil (λ f. is_tail f.ty ≡ false))
no_tails-none (f ∷ g ∷ fs) h last =
    let parts = not-false (is_tail f.ty) (only_last_is_tail (g ∷ fs)) last in
    All-cons (λ f. is_tail f.ty ≡ false) f (g ∷ fs) parts.0 (no_tails-none (g ∷ fs) h parts.1)

pub no_tails-all : (fields : List Field) → IsTrue (no_tails fields) → All (λ f. is_tail f.ty ≡ false) fields
no_tails-all [] h = All-nil (λ f. is_tail f.ty ≡ false)
no_tails-all (f ∷ fs) h =
    let parts = not-false (is_tail f.ty) (no_tails fs) h in
    All-cons (λ f. is_tail f.ty ≡ false) f fs parts.0 (no_tails-all fs parts.1)

-- the `desc` of a union changes nothing
Plain-desc : (program : Program) (node : TypeId) (desc other : Option Expr) → Plain program (ty.Node node desc) → Plain program (ty.Node node other)
Plain-desc program node desc other p = record { shape = ap plain_at (outs-Node node other); whole = λ n held. p.whole n (held-node node desc ∙ sym (held-node node other) ∙ held) }

module _ {program : Program} {planes : List Plane} {capacity : ℕ} where
  pub room-number : (scalar : Scalar) (b : ℕ) → Room program planes capacity (ty.Num scalar) b → 8 * bytes_of scalar ≤ b
  room-number scalar b (plain p) = let e = extent-number planes scalar in omega (arith, e)
  room-number scalar b (tail e p) = let o = outs-Num scalar in absurd (cc)

  pub room-bits : (unit : Scalar) (width b : ℕ) → Room program planes capacity (ty.Bits unit width) b → width ≤ b
  room-bits unit width b (plain p) = let o = ap plain_at (outs-Bits unit width) in let s = p.shape in absurd (cc)
  room-bits unit width b bits = omega arith
  room-bits unit width b (tail e p) = let o = outs-Bits unit width in absurd (cc)

  pub room-opaque : (size align b : ℕ) → Room program planes capacity (ty.Opaque size align) b → 8 * size ≤ b
  room-opaque size align b (plain p) = let e = extent-opaque planes size align in omega (arith, e)
  room-opaque size align b (tail e p) = let o = outs-Opaque size align in absurd (cc)

  pub room-pointer : (type : Ty) (b : ℕ) → IsTrue (is_pointer type) → Room program planes capacity type b → 64 ≤ b
  room-pointer type b h (plain p) = let e = extent-pointer planes type h in omega (arith, e)
  room-pointer type b h bits = absurd (cc)
  room-pointer type b h (sized s) = absurd (cc)
  room-pointer type b h (tail {elem} {length} e p) = absurd (no_pointer_tail type elem length h e)

  pub room-array : (type elem : Ty) (n b : ℕ) → out-Ty type ≡ part.Arr n elem → Room program planes capacity type b → Plain program elem × (n * (8 * (extent_of planes elem).size) ≤ b)
  room-array type elem n b e (plain p) = let x = extent-array planes type elem n e in (Plain-elem program type elem n e p, omega (arith, x))
  room-array type elem n b e (bits {unit} {width}) = let o = outs-Bits unit width in absurd (cc)
  room-array type elem n b e (sized {node} {desc} s) = let o = outs-Node node desc in absurd (cc)
  room-array type elem n b e (tail t p) = absurd (cc)

  pub room-tail : (type elem : Ty) (length : Expr) (b : ℕ) → out-Ty type ≡ part.Tail length elem → Room program planes capacity type b → Plain program elem × (capacity * (8 * (extent_of planes elem).size) ≤ b)
  room-tail type elem length b e (plain p) = let o = ap plain_at e in let s = p.shape in absurd (cc)
  room-tail type elem length b e (bits {unit} {width}) = let o = outs-Bits unit width in absurd (cc)
  room-tail type elem length b e (sized {node} {desc} s) = let o = outs-Node node desc in absurd (cc)
  room-tail type elem length b e (tail {elem = elem'} t p) =
      let same : elem' ≡ elem = cc in
      let le : capacity * (8 * (extent_of planes elem').size) ≤ 8 * (capacity * (extent_of planes elem').size) = omega arith in
      (subst (Plain program) same p, subst (λ x. capacity * (8 * (extent_of planes x).size) ≤ 8 * (capacity * (extent_of planes elem').size)) same le)

  pub room-desc : (node : TypeId) (desc other : Option Expr) (b : ℕ) → Room program planes capacity (ty.Node node desc) b → Room program planes capacity (ty.Node node other) b
  room-desc node desc other b (plain p) =
      let same : extent_of planes (ty.Node node other) ≡ extent_of planes (ty.Node node desc) = extent-node planes node other ∙ sym (extent-node planes node desc) in
      subst (λ e. Room program planes capacity (ty.Node node other) (8 * e.size)) same (plain (Plain-desc program node desc other p))
  room-desc node desc other b (sized s) = sized s
  room-desc node desc other b (tail e p) = let o = outs-Node node desc in absurd (cc)

  -- ---- fields

  pub room-field : (type : Ty) → Sound program type → is_tail type ≡ false → Room program planes capacity type (bits_in (storage_of planes type))
  room-field (ty.Bits unit width) sound t = bits
  room-field type sound t = plain (Plain-field program type sound.shape refl t sound.whole)

  pub Laid-follow : {X : Type 0} (type_of : X → Ty) (xs : List X) (spots : List FieldSpot) (from end : ℕ) → Follow from (map (λ x. storage_of planes (type_of x)) xs) spots
      → All (λ e. e ≤ end) (ends_at (map (λ x. storage_of planes (type_of x)) xs) spots) → from ≤ end → All (λ x. Room program planes capacity (type_of x) (bits_in (storage_of planes (type_of x)))) xs
      → Laid program planes capacity from (map (λ x. type_of x) xs) spots end
  Laid-follow type_of [] [] from end h a le each = none le
  Laid-follow type_of [] (s ∷ ss) from end h a le each = absurd h
  Laid-follow type_of (x ∷ xs) [] from end h a le each = absurd h
  Laid-follow type_of (x ∷ xs) (s ∷ ss) from end h a le each =
      let fields = map (λ y. storage_of planes (type_of y)) xs in
      let st = storage_of planes (type_of x) in
      more h.0.after (All-head (λ y. Room program planes capacity (type_of y) (bits_in (storage_of planes (type_of y)))) x xs each)
      (subst (λ n. Laid program planes capacity n (map (λ y. type_of y) xs) ss end) (end_of-bits st (begin_at s))
      (Laid-follow type_of xs ss (end_at st s) end h.2 (All-tail (λ e. e ≤ end) (end_at st s) (ends_at fields ss) a) (All-head (λ e. e ≤ end) (end_at st s) (ends_at fields ss) a)
      (All-tail (λ y. Room program planes capacity (type_of y) (bits_in (storage_of planes (type_of y)))) x xs each)))

  pub Laid-tail : (fields : List Field) (spots : List FieldSpot) (from end : ℕ) (elem : Ty) → Follow from (storages_of planes fields) spots → tail_of fields ≡ Some elem
      → IsTrue (only_last_is_tail fields) → 8 * (last_offset spots + capacity * (extent_of planes elem).size) ≤ end → All (λ f. Sound program f.ty) fields
      → Laid program planes capacity from (types_of fields) spots end
  Laid-tail [] spots from end elem h t last le each = absurd (cc)
  Laid-tail (f ∷ []) [] from end elem h t last le each = absurd h
  Laid-tail (f ∷ []) (s ∷ []) from end elem h t last le each =
      let sound = All-head (λ g. Sound program g.ty) f [] each in
      let found = tail-elements (out-Ty f.ty) elem t in
      let zero_bit : s.bit ≡ 0 = no_bit (storage_of planes f.ty) s (extent_of planes f.ty) (storage-tail planes f.ty elem found.0 found.1) h.1 in
      more h.0.after (tail found.1 (Plain-tail program f.ty elem found.0 found.1 sound.shape sound.whole)) (none (omega arith))
  Laid-tail (f ∷ []) (s ∷ r ∷ ss) from end elem h t last le each = absurd h.2
  Laid-tail (f ∷ g ∷ fs) [] from end elem h t last le each = absurd h
  Laid-tail (f ∷ g ∷ fs) (s ∷ []) from end elem h t last le each = absurd h.2
  Laid-tail (f ∷ g ∷ fs) (s ∷ r ∷ ss) from end elem h t last le each =
      let sound = All-head (λ g. Sound program g.ty) f (g ∷ fs) each in
      let parts = not-false (is_tail f.ty) (only_last_is_tail (g ∷ fs)) last in
      more h.0.after (room-field f.ty sound parts.0)
      (subst (λ n. Laid program planes capacity n (types_of (g ∷ fs)) (r ∷ ss) end) (end_of-bits (storage_of planes f.ty) (begin_at s))
      (Laid-tail (g ∷ fs) (r ∷ ss) (end_at (storage_of planes f.ty) s) end elem h.2 t parts.1 le (All-tail (λ g. Sound program g.ty) f (g ∷ fs) each)))

pub room-plain : (program : Program) (planes : List Plane) (capacity : ℕ) (type : Ty) → Plain program type → Room program planes capacity type (bits_in (storage_of planes type))
room-plain program planes capacity type p = subst (λ s. Room program planes capacity type (bits_in s)) (sym (storage-plain program planes type p)) (plain p)
