-- Bit-fields of a program have a bit at least, and no more than their unit, and are no elements.
use Rattle.std.proofs.Common.{◌≡◌, ℕ, ◌≤◌, Bool, true, false, ◌&&◌, IsTrue, nat_le, refl, ap, subst, ◌∙◌, None}
use Rattle.std.specs.Prelude.{slice_get}
use Rattle.std.proofs.lemmas.Bool.{leb-true}
use Rattle.std.proofs.lemmas.List.Elements.{All-contains}
use Rattle.gt_types.specs.declared.expressions.Expr.{Expr}
use Rattle.gt_types.specs.declared.types.Scalar.{Scalar}
use Rattle.gt_types.specs.declared.types.Ty.{Ty, out-Ty}
use Rattle.gt_types.specs.declared.types.Ty.TheFolds.{fold_out-Ty, map-Ty}
use Rattle.gt_types.specs.declared.types.Ty.TheOpen as part
use Rattle.gt_types.specs.declared.types.Ty.TheOpen.{Ty-F}
use Rattle.gt_types.specs.declared.types.Ty.TheVariants as ty
use Rattle.gt_types.specs.declared.types.Ty.TheVariants.{outs-Num, outs-Bits, outs-Str, outs-Ptr, outs-Node}
use Rattle.gt_types.specs.declared.program.Program.{Program}
use Rattle.gt_types.specs.Shapes.{is_bound, bits_of, is_element, is_element_step, may_repeat, field_type_at, root_type_at}
use Rattle.gt_types.specs.Settled.{Settled, IsField, IsRoot}
use Rattle.gt_tree.specs.Blocks.{Kind, Nodes, Pointers, Strings, Chars, Raw, desc_of, element_type}
use Rattle.gt_tree.specs.LeafLaws.{IsTypeIn}

-- a bit-field has a bit and no more than its unit, and the elements of an array are elements
abbrev pub sound_at : Ty-F Ty → Bool
sound_at (part.Bits unit width) = nat_le 1 width && nat_le width (bits_of unit)
sound_at (part.Arr n elem) = is_element elem
sound_at (part.Tail length elem) = is_element elem
sound_at layer = true

both : (a b : Bool) → IsTrue (a && b) → IsTrue a × IsTrue b
both true true h = (refl, refl)
both true false h = (refl, h)
both false b h = absurd (cc)

repeated : (elem : Ty) → IsTrue (may_repeat elem) → IsTrue (is_element elem)
repeated elem h = (both (is_element elem) _ h).0

sound-field : (x : Ty-F Ty) → IsTrue (field_type_at x) → IsTrue (sound_at x)
sound-field (part.Num scalar) h = refl
sound-field (part.Bits unit width) h = h
sound-field (part.Opaque size align) h = refl
sound-field (part.Str count) h = refl
sound-field (part.Ptr target kind reorder) h = refl
sound-field (part.Node node desc) h = refl
sound-field (part.Arr n elem) h = repeated elem (both (is_bound n) (may_repeat elem) h).1
sound-field (part.Tail length elem) h = repeated elem h

sound-root : (x : Ty-F Ty) → IsTrue (root_type_at x) → IsTrue (sound_at x)
sound-root (part.Num scalar) h = refl
sound-root (part.Bits unit width) h = absurd (cc)
sound-root (part.Opaque size align) h = refl
sound-root (part.Str count) h = refl
sound-root (part.Ptr target kind reorder) h = refl
sound-root (part.Node node desc) h = refl
sound-root (part.Arr n elem) h = repeated elem (both (is_bound n) (may_repeat elem) h).1
sound-root (part.Tail length elem) h = absurd (cc)

sound-element_at : (x : Ty-F Ty) → IsTrue (is_element_step (map-Ty Ty Bool is_element x)) → IsTrue (sound_at x)
sound-element_at (part.Num scalar) h = refl
sound-element_at (part.Bits unit width) h = absurd (cc)
sound-element_at (part.Opaque size align) h = refl
sound-element_at (part.Str count) h = refl
sound-element_at (part.Ptr target kind reorder) h = refl
sound-element_at (part.Node node desc) h = refl
sound-element_at (part.Arr n elem) h = (both (is_bound n) (is_element elem) h).1
sound-element_at (part.Tail length elem) h = absurd (cc)

pub sound-element : (type : Ty) → IsTrue (is_element type) → IsTrue (sound_at (out-Ty type))
sound-element type h = sound-element_at (out-Ty type) (subst IsTrue (fold_out-Ty Bool is_element_step type) h)

sound-kind : (program : Program) (kind : Kind) → IsTrue (sound_at (out-Ty (element_type program kind)))
sound-kind program (Nodes node) = ap sound_at (outs-Node node (desc_of (slice_get program.structures node.0)))
sound-kind program (Pointers node) = ap sound_at (outs-Ptr _ _ _)
sound-kind program Strings = ap sound_at (outs-Str None)
sound-kind program Chars = ap sound_at (outs-Num _)
sound-kind program Raw = ap sound_at (outs-Num _)

pub sound : (program : Program) → Settled program → {type : Ty} → IsTypeIn program type → IsTrue (sound_at (out-Ty type))
sound program settled (IsTypeIn.of_field node s f has contains) = sound-field (out-Ty f.ty) (All-contains (IsField program node s) s.fields f (settled.structures node s has).fields contains).shape
sound program settled (IsTypeIn.of_root r contains) = sound-root (out-Ty r.ty) (All-contains (IsRoot program) program.roots r settled.roots contains).shape
sound program settled (IsTypeIn.of_block kind) = sound-kind program kind
sound program settled (IsTypeIn.of_array {elem} inner e) = sound-element elem (subst (λ x. IsTrue (sound_at x)) e (sound program settled inner))
sound program settled (IsTypeIn.of_tail {elem} inner e) = sound-element elem (subst (λ x. IsTrue (sound_at x)) e (sound program settled inner))

pub wide : (program : Program) (unit : Scalar) (width : ℕ) → Settled program → IsTypeIn program (ty.Bits unit width) → 1 ≤ width
wide program unit width settled is = leb-true 1 width (both (nat_le 1 width) (nat_le width (bits_of unit)) (subst (λ x. IsTrue (sound_at x)) (outs-Bits unit width) (sound program settled is))).0

pub narrow : (program : Program) (unit : Scalar) (width : ℕ) → Settled program → IsTypeIn program (ty.Bits unit width) → width ≤ bits_of unit
narrow program unit width settled is =
    leb-true width (bits_of unit) (both (nat_le 1 width) (nat_le width (bits_of unit)) (subst (λ x. IsTrue (sound_at x)) (outs-Bits unit width) (sound program settled is))).1

tail-no_element : (type elem : Ty) (length : Expr) → out-Ty type ≡ part.Tail length elem → ¬ IsTrue (is_element type)
tail-no_element type elem length e h =
    let none : is_element type ≡ false = fold_out-Ty Bool is_element_step type ∙ ap (λ x. is_element_step (map-Ty Ty Bool is_element x)) e in
    cc

-- an element is no array with a length
pub element-no_tail : (program : Program) (type elem : Ty) (n : ℕ) → Settled program → IsTypeIn program type → out-Ty type ≡ part.Arr n elem → (length : Expr) (inner : Ty) → ¬ (out-Ty elem ≡ part.Tail length inner)
element-no_tail program type elem n settled is e length inner tail = tail-no_element elem inner length tail (subst (λ x. IsTrue (sound_at x)) e (sound program settled is))

pub tail_element-no_tail : (program : Program) (type elem : Ty) (long : Expr) → Settled program → IsTypeIn program type → out-Ty type ≡ part.Tail long elem → (length : Expr) (inner : Ty) → ¬ (out-Ty elem ≡ part.Tail length inner)
tail_element-no_tail program type elem long settled is e length inner tail = tail-no_element elem inner length tail (subst (λ x. IsTrue (sound_at x)) e (sound program settled is))
