-- The type of a field or a root depends on planes only by what it holds, and there by sizes within the limit.
use Rattle.std.proofs.Common.{◌≡◌, ◌∙◌, ℕ, ◌*◌, min, Bool, true, false, List, [], ◌∷◌, Option, Some, None, refl, sym, ap}
use Rattle.std.specs.Prelude.{codes, if◌then◌else◌}
use Rattle.gt_types.specs.declared.expressions.Expr.{Expr}
use Rattle.gt_types.specs.declared.limits.TheConstants.{TOO_LARGE}
use Rattle.gt_types.specs.declared.types.Ty.{Ty}
use Rattle.gt_types.specs.declared.types.Ty.TheVariants as ty
use Rattle.gt_items.specs.declared.items.RawOption.{RawOption}
use Rattle.gt_items.specs.declared.items.Stars.{Stars}
use Rattle.gt_items.specs.declared.items.Stars.TheVariants.{Zero}
use Rattle.gt_layout.specs.declared.planes.Plane.{Plane}
use Rattle.gt_layout.specs.Storages.{extent_at}
use Rattle.gt_layout.proofs.Types.{AreClose}
use Rattle.gt_drafts.specs.declared.types.Amount.{Amount}
use Rattle.gt_drafts.specs.declared.types.BaseType.{BaseType}
use Rattle.gt_drafts.specs.declared.types.BaseType.TheVariants as base
use Rattle.gt_drafts.specs.declared.types.DeclaredType.{DeclaredType}
use Rattle.gt_drafts.specs.declared.draft.Draft.{Draft}
use Rattle.gt_drafts.specs.Options.{has_skip}
use Rattle.gt_drafts.specs.Undefined.{is_zero}
use Rattle.gt_drafts.specs.Shapes.{held_type, structure_by_value}
use Rattle.gt_markers.specs.Expressions.{Names}
use Rattle.gt_markers.specs.Typing.{amount, array_type, bits_type, base_extent, declared_type, elements, expression_named, faulty_by, opaque_element, or_faulty, pointer_extent, says, single_extent, opaque_type, or_opaque, skipped_by, skipped_single, skipped_type, type_by, walked_type}
use Rattle.gt_typing.proofs.SizeLemmas.{times_held}

-- so many of sizes that are the same within the limit
times_same : (n a b : ℕ) → min a TOO_LARGE ≡ min b TOO_LARGE → min (n * a) TOO_LARGE ≡ min (n * b) TOO_LARGE
times_same n a b same = sym (times_held n a TOO_LARGE) ∙ ap (λ (m : ℕ). min (n * m) TOO_LARGE) same ∙ times_held n b TOO_LARGE

-- planes that are close at what a type holds
module _ (p q : List Plane) (t : DeclaredType) (close : (id : ℕ) → held_type t ≡ Some id → AreClose (extent_at p id) (extent_at q id)) where
  single_by : (function : Bool) (stars : Stars) (b : BaseType) → ((id : ℕ) → (if function then None else structure_by_value b stars) ≡ Some id → held_type t ≡ Some id)
      → AreClose (if function then pointer_extent else (if is_zero stars then base_extent p b else pointer_extent))
      (if function then pointer_extent else (if is_zero stars then base_extent q b else pointer_extent))
  single_by true stars b held = (refl, refl)
  single_by false Zero (base.Structure id) held = close id (held id refl)
  single_by false Zero b held = (refl, refl)
  single_by false stars b held = (refl, refl)

  same_opaque : opaque_type p t ≡ opaque_type q t
  same_opaque =
      let both : AreClose (single_extent p t) (single_extent q t) = single_by t.is_function t.resolved.stars t.resolved.base (λ id is. is) in
      ap (λ (n : ℕ). ty.Opaque n (single_extent p t).align) (times_same (elements t.bounds) (single_extent p t).size (single_extent q t).size both.1)
      ∙ ap (λ (n : ℕ). ty.Opaque (min (elements t.bounds * (single_extent q t).size) TOO_LARGE) n) both.0

  same_or : (o : Option Ty) → or_opaque p t o ≡ or_opaque q t o
  same_or None = same_opaque
  same_or (Some type) = refl

  same_number : (b : Bool) (type : Ty) → (if b then type else opaque_type p t) ≡ (if b then type else opaque_type q t)
  same_number true type = refl
  same_number false type = same_opaque

  same_single : (b : BaseType) → skipped_single p t b ≡ skipped_single q t b
  same_single (base.Number s is_char) = same_number _ (ty.Num s)
  same_single b = same_opaque

  same_skipped : (bits : Option Amount) (bounds : List Amount) → skipped_by p t bits bounds ≡ skipped_by q t bits bounds
  same_skipped (Some count) bounds = same_or (bits_type t.resolved.base (amount count))
  same_skipped None [] = same_single t.resolved.base
  same_skipped None (bound ∷ bounds) = same_opaque

  same_element : opaque_element p t ≡ opaque_element q t
  same_element =
      let both : AreClose (single_extent p t) (single_extent q t) = single_by t.is_function t.resolved.stars t.resolved.base (λ id is. is) in
      ap (λ (n : ℕ). ty.Opaque n (single_extent p t).align) both.1 ∙ ap (λ (n : ℕ). ty.Opaque (min (single_extent q t).size TOO_LARGE) n) both.0

  same_faulty : (length : Option Expr) (bits : Option Amount) (bounds : List Amount) → faulty_by p t length bits bounds ≡ faulty_by q t length bits bounds
  same_faulty (Some count) None (bound ∷ bounds) = ap (array_type (Some count) bound bounds) same_element
  same_faulty (Some count) None [] = same_opaque
  same_faulty (Some count) (Some bits) bounds = same_opaque
  same_faulty None bits bounds = same_opaque

  same_by : (length : Option Expr) (skip : Bool) (walked : Option Ty)
      → or_faulty p t length (if skip then Some (skipped_type p t) else walked) ≡ or_faulty q t length (if skip then Some (skipped_type q t) else walked)
  same_by length true walked = same_skipped t.bits t.bounds
  same_by length false None = same_faulty length t.bits t.bounds
  same_by length false (Some type) = refl

  -- the type of a field or a root is the same by both
  pub same_type : (names : Names) (draft : Draft) (options : List RawOption) → declared_type names draft p options t ≡ declared_type names draft q options t
  same_type names draft options = same_by (expression_named names (codes "length") options) (has_skip options) (walked_type draft (says names options) t)
