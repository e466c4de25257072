-- What a type is made of, and which types hold no array with a length.
use Rattle.std.proofs.Common.{◌≡◌, ℕ, ◌+◌, ◌*◌, Bool, true, false, ◌&&◌, IsTrue, List, refl, ap, subst, ◌∙◌, Option, Some, None}
use Rattle.gt_types.specs.declared.expressions.Expr.{Expr}
use Rattle.gt_types.specs.declared.types.TypeId.{TypeId}
use Rattle.gt_types.specs.declared.types.Scalar.{Scalar}
use Rattle.gt_types.specs.declared.types.Ty.{Ty, out-Ty}
use Rattle.gt_types.specs.declared.types.Ty.TheFolds.{fold_out-Ty, map-Ty}
use Rattle.gt_types.specs.declared.types.Ty.TheOpen as part
use Rattle.gt_types.specs.declared.types.Ty.TheOpen.{Ty-F}
use Rattle.gt_types.specs.declared.types.Ty.TheVariants as ty
use Rattle.gt_types.specs.declared.types.Ty.TheVariants.{outs-Num, outs-Bits, outs-Opaque, outs-Str, outs-Ptr, outs-Node, outs-Arr', outs-Tail'}
use Rattle.gt_types.specs.declared.program.Program.{Program}
use Rattle.gt_types.specs.Shapes.{innermost, innermost_step, is_element, is_element_step, is_pointer, is_tail, is_bound, may_repeat, field_type_at, is_field_type, root_type_at, is_root_type}
use Rattle.gt_types.specs.Contains.{held_by, itself}
use Rattle.gt_types.specs.Tails.{IsTailType}
use Rattle.gt_layout.specs.declared.planes.Extent.{Extent}
use Rattle.gt_layout.specs.declared.planes.Plane.{Plane}
use Rattle.gt_layout.specs.declared.storages.Storage.{Storage}
use Rattle.gt_layout.specs.declared.storages.Storage.TheVariants.{Bytes, Bits}
use Rattle.gt_layout.specs.Storages.{bytes_of, extent_at, extent_of, extent_step, storage_of}
use Rattle.gt_layout.specs.Places.{end_of}

-- ---- one layer of a type

extent-layer : (planes : List Plane) (type : Ty) (x : Ty-F Ty) → out-Ty type ≡ x → extent_of planes type ≡ extent_step planes (map-Ty Ty Extent (extent_of planes) x)
extent-layer planes type x e = fold_out-Ty Extent (extent_step planes) type ∙ ap (λ y. extent_step planes (map-Ty Ty Extent (extent_of planes) y)) e

innermost-layer : (type : Ty) (x : Ty-F Ty) → out-Ty type ≡ x → innermost type ≡ innermost_step (map-Ty Ty Ty innermost x)
innermost-layer type x e = fold_out-Ty Ty innermost_step type ∙ ap (λ y. innermost_step (map-Ty Ty Ty innermost y)) e

element-layer : (type : Ty) (x : Ty-F Ty) → out-Ty type ≡ x → is_element type ≡ is_element_step (map-Ty Ty Bool is_element x)
element-layer type x e = fold_out-Ty Bool is_element_step type ∙ ap (λ y. is_element_step (map-Ty Ty Bool is_element y)) e

pub extent-number : (planes : List Plane) (scalar : Scalar) → (extent_of planes (ty.Num scalar)).size ≡ bytes_of scalar
extent-number planes scalar = ap (λ e. e.size) (extent-layer planes (ty.Num scalar) (part.Num scalar) (outs-Num scalar))

pub extent-opaque : (planes : List Plane) (size align : ℕ) → (extent_of planes (ty.Opaque size align)).size ≡ size
extent-opaque planes size align = ap (λ e. e.size) (extent-layer planes (ty.Opaque size align) (part.Opaque size align) (outs-Opaque size align))

pub extent-node : (planes : List Plane) (node : TypeId) (desc : Option Expr) → extent_of planes (ty.Node node desc) ≡ extent_at planes node.0
extent-node planes node desc = extent-layer planes (ty.Node node desc) (part.Node node desc) (outs-Node node desc)

pub extent-array : (planes : List Plane) (type elem : Ty) (n : ℕ) → out-Ty type ≡ part.Arr n elem → (extent_of planes type).size ≡ n * (extent_of planes elem).size
extent-array planes type elem n e = ap (λ x. x.size) (extent-layer planes type (part.Arr n elem) e)

pub extent-pointer : (planes : List Plane) (type : Ty) → IsTrue (is_pointer type) → (extent_of planes type).size ≡ 8
extent-pointer planes (ty.Str count) h = ap (λ x. x.size) (extent-layer planes (ty.Str count) (part.Str count) (outs-Str count))
extent-pointer planes (ty.Ptr target kind reorder) h = ap (λ x. x.size) (extent-layer planes (ty.Ptr target kind reorder) (part.Ptr target kind reorder) (outs-Ptr target kind reorder))
extent-pointer planes type h = cc

pub held-node : (node : TypeId) (desc : Option Expr) → held_by (ty.Node node desc) ≡ Some node
held-node node desc = ap itself (innermost-layer (ty.Node node desc) (part.Node node desc) (outs-Node node desc))

pub innermost-node : (node : TypeId) (desc : Option Expr) → innermost (ty.Node node desc) ≡ ty.Node node desc
innermost-node node desc = innermost-layer (ty.Node node desc) (part.Node node desc) (outs-Node node desc)

pub held-array : (type elem : Ty) (n : ℕ) → out-Ty type ≡ part.Arr n elem → held_by type ≡ held_by elem
held-array type elem n e = ap itself (innermost-layer type (part.Arr n elem) e)

pub held-tail : (type elem : Ty) (length : Expr) → out-Ty type ≡ part.Tail length elem → held_by type ≡ held_by elem
held-tail type elem length e = ap itself (innermost-layer type (part.Tail length elem) e)

-- ---- types that hold no array with a length

abbrev pub plain_at : Ty-F Ty → Bool
plain_at (part.Bits unit width) = false
plain_at (part.Tail length elem) = false
plain_at (part.Arr n elem) = is_element elem
plain_at layer = true

-- a value of this type takes the bytes of its type
pub record Plain (program : Program) (type : Ty) : Type 0 where
  pub shape : IsTrue (plain_at (out-Ty type))
  pub whole : (node : TypeId) → held_by type ≡ Some node → ¬ IsTailType program node

true-both : (a b : Bool) → IsTrue (a && b) → IsTrue a × IsTrue b
true-both true true h = (refl, refl)
true-both true false h = (refl, h)
true-both false b h = absurd (cc)

plain-element_at : (x : Ty-F Ty) → IsTrue (is_element_step (map-Ty Ty Bool is_element x)) → IsTrue (plain_at x)
plain-element_at (part.Num scalar) h = refl
plain-element_at (part.Bits unit width) h = h
plain-element_at (part.Opaque size align) h = refl
plain-element_at (part.Str count) h = refl
plain-element_at (part.Ptr target kind reorder) h = refl
plain-element_at (part.Node node desc) h = refl
plain-element_at (part.Arr n elem) h = (true-both (is_bound n) (is_element elem) h).1
plain-element_at (part.Tail length elem) h = h

pub plain-element : (type : Ty) → IsTrue (is_element type) → IsTrue (plain_at (out-Ty type))
plain-element type h = plain-element_at (out-Ty type) (subst IsTrue (element-layer type (out-Ty type) refl) h)

pub Plain-elem : (program : Program) (type elem : Ty) (n : ℕ) → out-Ty type ≡ part.Arr n elem → Plain program type → Plain program elem
Plain-elem program type elem n e p = record {
  shape = plain-element elem (subst (λ x. IsTrue (plain_at x)) e p.shape);
  whole = λ node held. p.whole node (held-array type elem n e ∙ held);
}

may_repeat-element : (elem : Ty) → IsTrue (may_repeat elem) → IsTrue (is_element elem)
may_repeat-element elem h = (true-both (is_element elem) _ h).0

-- ---- fields

abbrev pub bits_in : Storage → ℕ
bits_in (Bytes e) = 8 * e.size
bits_in (Bits unit width) = width

pub end_of-bits : (storage : Storage) (begin : ℕ) → end_of storage begin ≡ begin + bits_in storage
end_of-bits (Bytes e) begin = refl
end_of-bits (Bits unit width) begin = refl

plain-field_at : (x : Ty-F Ty) → IsTrue (field_type_at x) → ((unit : Scalar) (width : ℕ) → ¬ (x ≡ part.Bits unit width)) → ((length : Expr) (elem : Ty) → ¬ (x ≡ part.Tail length elem)) → IsTrue (plain_at x)
plain-field_at (part.Num scalar) h b t = refl
plain-field_at (part.Bits unit width) h b t = absurd (b unit width refl)
plain-field_at (part.Opaque size align) h b t = refl
plain-field_at (part.Str count) h b t = refl
plain-field_at (part.Ptr target kind reorder) h b t = refl
plain-field_at (part.Node node desc) h b t = refl
plain-field_at (part.Arr n elem) h b t = may_repeat-element elem (true-both (is_bound n) (may_repeat elem) h).1
plain-field_at (part.Tail length elem) h b t = absurd (t length elem refl)

plain-root_at : (x : Ty-F Ty) → IsTrue (root_type_at x) → IsTrue (plain_at x)
plain-root_at (part.Num scalar) h = refl
plain-root_at (part.Bits unit width) h = h
plain-root_at (part.Opaque size align) h = refl
plain-root_at (part.Str count) h = refl
plain-root_at (part.Ptr target kind reorder) h = refl
plain-root_at (part.Node node desc) h = refl
plain-root_at (part.Arr n elem) h = may_repeat-element elem (true-both (is_bound n) (may_repeat elem) h).1
plain-root_at (part.Tail length elem) h = h

pub Plain-root : (program : Program) (type : Ty) → IsTrue (is_root_type type) → ((node : TypeId) → held_by type ≡ Some node → ¬ IsTailType program node) → Plain program type
Plain-root program type shape whole = record { shape = plain-root_at (out-Ty type) shape; whole = whole }

-- the elements of an array with a length
pub Plain-tail : (program : Program) (type elem : Ty) (length : Expr) → out-Ty type ≡ part.Tail length elem → IsTrue (is_field_type type) → ((node : TypeId) → held_by type ≡ Some node → ¬ IsTailType program node) → Plain program elem
Plain-tail program type elem length e shape whole = record {
  shape = plain-element elem (may_repeat-element elem (subst (λ x. IsTrue (field_type_at x)) e shape));
  whole = λ node held. whole node (held-tail type elem length e ∙ held);
}

-- a type that is no bit-field, whose array has no length
abbrev pub is_bits : Ty → Bool
is_bits (ty.Bits unit width) = true
is_bits type = false

no_bits : (type : Ty) → is_bits type ≡ false → (unit : Scalar) (width : ℕ) → ¬ (out-Ty type ≡ part.Bits unit width)
no_bits (ty.Num scalar) h unit width e = let o = outs-Num scalar in cc
no_bits (ty.Bits u w) h unit width e = cc
no_bits (ty.Opaque size align) h unit width e = let o = outs-Opaque size align in cc
no_bits (ty.Str count) h unit width e = let o = outs-Str count in cc
no_bits (ty.Ptr target kind reorder) h unit width e = let o = outs-Ptr target kind reorder in cc
no_bits (ty.Node node desc) h unit width e = let o = outs-Node node desc in cc
no_bits (ty.Arr' n shape elem) h unit width e = let o = outs-Arr' n shape elem in cc
no_bits (ty.Tail' count shape elem) h unit width e = let o = outs-Tail' count shape elem in cc

pub no_tail : (type : Ty) → is_tail type ≡ false → (length : Expr) (elem : Ty) → ¬ (out-Ty type ≡ part.Tail length elem)
no_tail (ty.Num scalar) h length elem e = let o = outs-Num scalar in cc
no_tail (ty.Bits u w) h length elem e = let o = outs-Bits u w in cc
no_tail (ty.Opaque size align) h length elem e = let o = outs-Opaque size align in cc
no_tail (ty.Str count) h length elem e = let o = outs-Str count in cc
no_tail (ty.Ptr target kind reorder) h length elem e = let o = outs-Ptr target kind reorder in cc
no_tail (ty.Node node desc) h length elem e = let o = outs-Node node desc in cc
no_tail (ty.Arr' n shape elem') h length elem e = let o = outs-Arr' n shape elem' in cc
no_tail (ty.Tail' count shape elem') h length elem e = cc

pub Plain-field : (program : Program) (type : Ty) → IsTrue (is_field_type type) → is_bits type ≡ false → is_tail type ≡ false → ((node : TypeId) → held_by type ≡ Some node → ¬ IsTailType program node) → Plain program type
Plain-field program type shape b t whole = record { shape = plain-field_at (out-Ty type) shape (no_bits type b) (no_tail type t); whole = whole }

-- ---- numbers and pointers hold no structure

held-number : (scalar : Scalar) → held_by (ty.Num scalar) ≡ None
held-number scalar = ap itself (innermost-layer (ty.Num scalar) (part.Num scalar) (outs-Num scalar))

held-pointer : (type : Ty) → IsTrue (is_pointer type) → held_by type ≡ None
held-pointer (ty.Str count) h = ap itself (innermost-layer (ty.Str count) (part.Str count) (outs-Str count))
held-pointer (ty.Ptr target kind reorder) h = ap itself (innermost-layer (ty.Ptr target kind reorder) (part.Ptr target kind reorder) (outs-Ptr target kind reorder))
held-pointer type h = cc

plain-pointer : (type : Ty) → IsTrue (is_pointer type) → IsTrue (plain_at (out-Ty type))
plain-pointer (ty.Str count) h = ap plain_at (outs-Str count)
plain-pointer (ty.Ptr target kind reorder) h = ap plain_at (outs-Ptr target kind reorder)
plain-pointer type h = cc

pub Plain-pointer : (program : Program) (type : Ty) → IsTrue (is_pointer type) → Plain program type
Plain-pointer program type h = record { shape = plain-pointer type h; whole = λ node held. let free = held-pointer type h in absurd (cc) }

pub Plain-number : (program : Program) (scalar : Scalar) → Plain program (ty.Num scalar)
Plain-number program scalar = record { shape = ap plain_at (outs-Num scalar); whole = λ node held. let free = held-number scalar in absurd (cc) }

-- what takes the bytes of its type is no bit-field
pub storage-plain : (program : Program) (planes : List Plane) (type : Ty) → Plain program type → storage_of planes type ≡ Bytes (extent_of planes type)
storage-plain program planes (ty.Bits unit width) p = let o = ap plain_at (outs-Bits unit width) in let s = p.shape in absurd (cc)
storage-plain program planes type p = refl
