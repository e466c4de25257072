-- The numbers of a sound type fit.
use Rattle.std.proofs.Common.{◌≡◌, ◌∙◌, ◌≤◌, ◌<◌, ◌^◌, ℕ, Bool, true, false, List, [], ◌∷◌, length, Option, Some, None, All, IfSome, ap, arith}
use Rattle.std.proofs.lemmas.List.Elements.{All-nil, All-cons, All-head, All-tail}
use Rattle.gt_types.specs.declared.limits.TheConstants.{MAX_STRUCTURES}
use Rattle.gt_types.specs.declared.types.Scalar.{Scalar}
use Rattle.gt_types.specs.declared.types.Scalar.TheVariants as scalar
use Rattle.gt_types.specs.declared.types.Width.TheVariants.{W1, W2, W4, W8}
use Rattle.gt_types.specs.Shapes.{bits_of}
use Rattle.gt_drafts.specs.declared.types.Amount.{Amount}
use Rattle.gt_drafts.specs.declared.types.BaseType.{BaseType}
use Rattle.gt_drafts.specs.declared.types.BaseType.TheVariants as base
use Rattle.gt_drafts.specs.declared.types.DeclaredType.{DeclaredType}
use Rattle.gt_drafts.specs.declared.draft.Draft.{Draft}
use Rattle.gt_markers.specs.Typing.{amount}
use Rattle.gt_markers.specs.Sound.{IsBound, AreBounds, IsBitCount, NamesStructure}
use Rattle.gt_typing.specs.SmallTypes.{IsSmall, HasSmallId, IsSmallType}

small_bound : (bound : Amount) → IsBound bound → IsSmall bound
small_bound bound is = let same : amount bound ≡ is.0 = ap amount is.1 in let low = is.3 in omega (arith, low, same)

small_bounds : (bounds : List Amount) → All IsBound bounds → All IsSmall bounds
small_bounds [] are = All-nil IsSmall
small_bounds (bound ∷ bounds) are =
    All-cons IsSmall bound bounds (small_bound bound (All-head IsBound bound bounds are)) (small_bounds bounds (All-tail IsBound bound bounds are))

all_small : (replaced : Bool) (bounds : List Amount) → AreBounds replaced bounds → All IsSmall bounds
all_small replaced [] are = All-nil IsSmall
all_small true (bound ∷ bounds) are = let same : amount bound ≡ 0 = ap amount are.0 in All-cons IsSmall bound bounds (omega (arith, same)) (small_bounds bounds are.1)
all_small false (bound ∷ bounds) are = small_bounds (bound ∷ bounds) are

few_bits : (s : Scalar) → bits_of s ≤ 64
few_bits scalar.Bool = omega arith
few_bits (scalar.Int W1 signed) = omega arith
few_bits (scalar.Int W2 signed) = omega arith
few_bits (scalar.Int W4 signed) = omega arith
few_bits (scalar.Int W8 signed) = omega arith

small_id : (draft : Draft) (b : BaseType) → length draft.structures ≤ MAX_STRUCTURES → NamesStructure draft b → HasSmallId b
small_id draft (base.Structure id) few there = omega (arith, few, there)
small_id draft b few there = tt

small_bits : (t : DeclaredType) (bits : Option Amount) → IfSome bits (IsBitCount t) → IfSome bits (λ count. amount count < 2 ^ 8)
small_bits t None are = tt
small_bits t (Some count) are =
    let same : amount count ≡ are.0 = ap amount are.1 in let low = are.6.3 in let few = few_bits are.6.0 in omega (arith, low, few, same)

-- a sound type of a sound draft is small
pub sound_small : (draft : Draft) (replaced : Bool) (t : DeclaredType) → length draft.structures ≤ MAX_STRUCTURES → AreBounds replaced t.bounds → IfSome t.bits (IsBitCount t)
    → NamesStructure draft t.resolved.base → IsSmallType t
sound_small draft replaced t few bounds bits there =
    record { id = small_id draft t.resolved.base few there; bounds = all_small replaced t.bounds bounds; bits = small_bits t t.bits bits }
