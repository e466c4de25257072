-- Whether a union has a common structure can be decided.
use Rattle.std.proofs.Common.{◌≡◌, ◌<◌, ◌⊎◌, ℕ, zero, suc, Bool, true, false, List, [], ◌∷◌, length, Option, Some, None, refl, sym, ◌∙◌, arith, inl, inr}
use Rattle.std.specs.Prelude.{slice_get}
use Rattle.gt_types.specs.declared.types.TypeId.{TypeId}
use Rattle.gt_types.specs.declared.program.Structure.{Structure}
use Rattle.gt_types.specs.declared.program.Program.{Program}
use Rattle.gt_types.specs.Contains.{HasStructure}
use Rattle.gt_types.specs.Unions.{IsCommon}
use Rattle.gt_types.specs.Settled.{Settled}
use Rattle.gt_unions.specs.Commons.{common_of}
use Rattle.gt_unions.proofs.CommonFound.{CommonIs, common-is}

pub get-there : {X : Type 0} (xs : List X) (k : ℕ) → k < length xs → (x : X) × (slice_get xs k ≡ Some x)
get-there [] k within = absurd (omega (arith, within))
get-there (x ∷ xs) zero within = (x, refl)
get-there (x ∷ xs) (suc k) within = get-there xs k (omega (arith, within))

abbrev Decided : Program → Structure → Type 0
Decided program s = ((common : TypeId) × IsCommon program s common) ⊎ ((common : TypeId) → ¬ IsCommon program s common)

decided : (program : Program) (s : Structure) (o : Option TypeId) → CommonIs program s o → Decided program s
decided program s (Some common) is = inl (common, is)
decided program s None none = inr none

by-kind : (program : Program) → Settled program → (node : TypeId) (s : Structure) → HasStructure program node s → (union : Bool) → s.is_union ≡ union → Decided program s
by-kind program settled node s has true union = decided program s (common_of program s) (common-is program settled node s has union)
by-kind program settled node s has false struct = inr (λ common c. let both = sym struct ∙ c.union in cc)

pub decide-common : (program : Program) → Settled program → (node : TypeId) (s : Structure) → HasStructure program node s → ((common : TypeId) × IsCommon program s common) ⊎ ((common : TypeId) → ¬ IsCommon program s common)
decide-common program settled node s has = by-kind program settled node s has s.is_union refl
