-- The types of the fields of the sample, part by part: what each is made of.
use Rattle.std.proofs.Common.{◌≡◌, ℕ, Bool, true, false, ap, sym, ◌∙◌}
use Rattle.std.specs.Prelude.{Option, Some, None}
use Rattle.gt_types.specs.declared.expressions.Expr.{Expr}
use Rattle.gt_types.specs.declared.types.Scalar.{Scalar}
use Rattle.gt_types.specs.declared.types.Target.{Target}
use Rattle.gt_types.specs.declared.types.Target.TheVariants as target
use Rattle.gt_types.specs.declared.types.PtrKind.TheVariants as kind
use Rattle.gt_types.specs.declared.types.PtrKind.{PtrKind}
use Rattle.gt_types.specs.declared.types.TypeId.{TypeId}
use Rattle.gt_types.specs.declared.types.Ty.{Ty}
use Rattle.gt_types.specs.declared.types.Ty.TheOpen as part
use Rattle.gt_types.specs.declared.types.Ty.TheVariants as ty
use Rattle.gt_types.specs.declared.types.Ty.TheFolds.{fold-roll-Ty}
use Rattle.gt_types.specs.Shapes.{innermost, innermost_step, is_element, is_element_step, dimensions, dimensions_step}
use Rattle.gt_types.specs.Tails.{elements_of, elements_at}

-- a type that is no array: it is its own innermost type, and no array with a length
pub record IsFlat (type : Ty) : Type 0 where
  pub inner : innermost type ≡ type
  pub no_tail : elements_of type ≡ None

inner-num : (s : Scalar) → innermost (ty.Num s) ≡ ty.Num s
inner-num s = ap innermost (sym (ty.rolls-Num s)) ∙ fold-roll-Ty Ty innermost_step (part.Num s)

inner-bits : (s : Scalar) (n : ℕ) → innermost (ty.Bits s n) ≡ ty.Bits s n
inner-bits s n = ap innermost (sym (ty.rolls-Bits s n)) ∙ fold-roll-Ty Ty innermost_step (part.Bits s n)

inner-opaque : (m n : ℕ) → innermost (ty.Opaque m n) ≡ ty.Opaque m n
inner-opaque m n = ap innermost (sym (ty.rolls-Opaque m n)) ∙ fold-roll-Ty Ty innermost_step (part.Opaque m n)

inner-str : (e : Option Expr) → innermost (ty.Str e) ≡ ty.Str e
inner-str e = ap innermost (sym (ty.rolls-Str e)) ∙ fold-roll-Ty Ty innermost_step (part.Str e)

inner-ptr : (t : Option Target) (k : PtrKind) (r : Bool) → innermost (ty.Ptr t k r) ≡ ty.Ptr t k r
inner-ptr t k r = ap innermost (sym (ty.rolls-Ptr t k r)) ∙ fold-roll-Ty Ty innermost_step (part.Ptr t k r)

inner-node : (i : TypeId) (d : Option Expr) → innermost (ty.Node i d) ≡ ty.Node i d
inner-node i d = ap innermost (sym (ty.rolls-Node i d)) ∙ fold-roll-Ty Ty innermost_step (part.Node i d)

pub inner-arr : (n : ℕ) (e : Ty) → innermost (ty.Arr n e) ≡ innermost e
inner-arr n e = ap innermost (sym (ty.rolls-Arr n e)) ∙ fold-roll-Ty Ty innermost_step (part.Arr n e)

pub inner-tail : (c : Expr) (e : Ty) → innermost (ty.Tail c e) ≡ innermost e
inner-tail c e = ap innermost (sym (ty.rolls-Tail c e)) ∙ fold-roll-Ty Ty innermost_step (part.Tail c e)

pub flat-num : (s : Scalar) → IsFlat (ty.Num s)
flat-num s = record { inner = inner-num s; no_tail = ap elements_at (ty.outs-Num s) }

pub flat-bits : (s : Scalar) (n : ℕ) → IsFlat (ty.Bits s n)
flat-bits s n = record { inner = inner-bits s n; no_tail = ap elements_at (ty.outs-Bits s n) }

pub flat-opaque : (m n : ℕ) → IsFlat (ty.Opaque m n)
flat-opaque m n = record { inner = inner-opaque m n; no_tail = ap elements_at (ty.outs-Opaque m n) }

pub flat-str : (e : Option Expr) → IsFlat (ty.Str e)
flat-str e = record { inner = inner-str e; no_tail = ap elements_at (ty.outs-Str e) }

pub flat-ptr : (t : Option Target) (k : PtrKind) (r : Bool) → IsFlat (ty.Ptr t k r)
flat-ptr t k r = record { inner = inner-ptr t k r; no_tail = ap elements_at (ty.outs-Ptr t k r) }

pub flat-node : (i : TypeId) (d : Option Expr) → IsFlat (ty.Node i d)
flat-node i d = record { inner = inner-node i d; no_tail = ap elements_at (ty.outs-Node i d) }

pub no_tail-arr : (n : ℕ) (e : Ty) → elements_of (ty.Arr n e) ≡ None
no_tail-arr n e = ap elements_at (ty.outs-Arr n e)

pub tail-tail : (c : Expr) (e : Ty) → elements_of (ty.Tail c e) ≡ Some e
tail-tail c e = ap elements_at (ty.outs-Tail c e)

-- ---- types of fields

pub element-num : (s : Scalar) → is_element (ty.Num s) ≡ true
element-num s = ap is_element (sym (ty.rolls-Num s)) ∙ fold-roll-Ty Bool is_element_step (part.Num s)

pub element-ptr : (i : TypeId) → is_element (ty.Ptr (Some (target.Node i)) kind.Plain false) ≡ true
element-ptr i =
    ap is_element (sym (ty.rolls-Ptr (Some (target.Node i)) kind.Plain false)) ∙ fold-roll-Ty Bool is_element_step (part.Ptr (Some (target.Node i)) kind.Plain false)

pub element-node : (i : TypeId) (d : Option Expr) → is_element (ty.Node i d) ≡ true
element-node i d = ap is_element (sym (ty.rolls-Node i d)) ∙ fold-roll-Ty Bool is_element_step (part.Node i d)

pub dim-node : (i : TypeId) (d : Option Expr) → dimensions (ty.Node i d) ≡ 0
dim-node i d = ap dimensions (sym (ty.rolls-Node i d)) ∙ fold-roll-Ty ℕ dimensions_step (part.Node i d)

pub dim-num : (s : Scalar) → dimensions (ty.Num s) ≡ 0
dim-num s = ap dimensions (sym (ty.rolls-Num s)) ∙ fold-roll-Ty ℕ dimensions_step (part.Num s)

pub dim-ptr : (t : Option Target) (k : PtrKind) (r : Bool) → dimensions (ty.Ptr t k r) ≡ 0
dim-ptr t k r = ap dimensions (sym (ty.rolls-Ptr t k r)) ∙ fold-roll-Ty ℕ dimensions_step (part.Ptr t k r)
