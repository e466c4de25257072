-- Whether a union has a common structure of a type.
use Rattle.std.proofs.Common.{◌≡◌, ℕ, zero, suc, Bool, true, false, IsTrue, List, [], ◌∷◌, refl, sym, subst, arith, Option, Some, None, inl, inr}
use Rattle.std.specs.Prelude.{All, Contains, slice_get}
use Rattle.gt_types.specs.declared.expressions.Expr.{Expr}
use Rattle.gt_types.specs.declared.limits.TheConstants.{MAX_DEPTH}
use Rattle.gt_types.specs.declared.types.TypeId.{TypeId}
use Rattle.gt_types.specs.declared.types.Ty.{Ty}
use Rattle.gt_types.specs.declared.types.Ty.TheVariants as ty
use Rattle.gt_types.specs.declared.program.Field.{Field}
use Rattle.gt_types.specs.declared.program.Structure.{Structure}
use Rattle.gt_types.specs.declared.program.Program.{Program}
use Rattle.gt_types.specs.Contains.{HasStructure, ContainsStructure, held_by}
use Rattle.gt_types.specs.Unions.{BeginsWith, is_it, by_first, IsPlainStruct, IsCommon, may_be_active}
use Rattle.gt_types.specs.Settled.{Settled}
use Rattle.gt_tree.proofs.PathBits.{some-same}
use Rattle.gt_tree.proofs.Types.{held-node}
use Rattle.gt_determined.proofs.Decisions.{Known, known-node, known-true, known-iff, known-all}
use Rattle.gt_determined.proofs.Plains.{IsBound, IsPlainInside, deeper-bound, bound-zero, known-plain, known-inside}

-- ---- what a structure begins with

-- what a struct begins with, where it is not this itself: what its first field begins with
first-inv : (program : Program) (outer node : TypeId) (desc : Option Expr) → ¬ (outer ≡ node) → BeginsWith program (ty.Node outer desc) node
    → (s : Structure) × (f : Field) × (fs : List Field) × HasStructure program outer s × (s.is_union ≡ false) × (s.fields ≡ f ∷ fs) × BeginsWith program f.ty node
first-inv program outer node desc ne is_it = absurd (ne refl)
first-inv program outer node desc ne (by_first {s} {f} {fs} has struct e rest) = (s, f, fs, has, struct, e, rest)

Contains-first : {X : Type 0} (xs : List X) (x : X) (rest : List X) → xs ≡ x ∷ rest → Contains xs x
Contains-first xs x rest e = subst (λ ys. Contains ys x) (sym e) (0, omega arith, refl)

no-node : (program : Program) (type : Ty) (node : TypeId) → BeginsWith program type node → (outer : TypeId) × (desc : Option Expr) × (type ≡ ty.Node outer desc)
no-node program type node (is_it {desc = desc}) = (node, desc, refl)
no-node program type node (by_first {outer} {desc = desc} has struct e rest) = (outer, desc, refl)

module _ (program : Program) (node : TypeId) where
  -- what is known of the structures so deep inside
  KnownInside : ℕ → TypeId → Type 0
  KnownInside fuel outer = (inner : TypeId) (desc : Option Expr) → ContainsStructure program outer inner → IsBound program fuel outer → Known (BeginsWith program (ty.Node inner desc) node)

  module _ (fuel : ℕ) (outer : TypeId) (desc : Option Expr) (bound : IsBound program fuel outer) (deep : KnownInside fuel outer) where
    inner : (s : Structure) (f : Field) (fs : List Field) → HasStructure program outer s → s.fields ≡ f ∷ fs → (type : Ty) → f.ty ≡ type → Known (BeginsWith program type node)
    unfolding KnownInside
    inner s f fs has e (ty.Node next d) is = deep next d (s, f, has, Contains-first s.fields f fs e, subst (λ t. held_by t ≡ Some next) (sym is) (held-node next d)) bound
    inner s f fs has e type is = inr (λ begins. let found = no-node program type node begins in let t = found.2 in cc)

    of : ¬ (outer ≡ node) → (s : Structure) → HasStructure program outer s → (u : Bool) → s.is_union ≡ u → (fields : List Field) → s.fields ≡ fields → Known (BeginsWith program (ty.Node outer desc) node)
    of ne s has true u fields e = inr (λ begins.
        let found = first-inv program outer node desc ne begins in
        let same : found.0 ≡ s = some-same (slice_get program.structures outer.0) found.0 s found.3 has in
        let struct : s.is_union ≡ false = subst (λ x. x.is_union ≡ false) same found.4 in cc)
    of ne s has false u [] e = inr (λ begins.
        let found = first-inv program outer node desc ne begins in
        let same : found.0 ≡ s = some-same (slice_get program.structures outer.0) found.0 s found.3 has in
        let fields : s.fields ≡ found.1 ∷ found.2 = subst (λ x. x.fields ≡ found.1 ∷ found.2) same found.5 in cc)
    of ne s has false u (f ∷ fs) e = known-iff (inner s f fs has e f.ty refl) (λ begins. by_first has u e begins) (λ begins.
        let found = first-inv program outer node desc ne begins in
        let same : found.0 ≡ s = some-same (slice_get program.structures outer.0) found.0 s found.3 has in
        let fields : s.fields ≡ found.1 ∷ found.2 = subst (λ x. x.fields ≡ found.1 ∷ found.2) same found.5 in
        let first : found.1 ≡ f = cc in
        subst (λ x. BeginsWith program x.ty node) first found.6)

    begins-at : Known (outer ≡ node) → (found : Option Structure) → slice_get program.structures outer.0 ≡ found → Known (BeginsWith program (ty.Node outer desc) node)
    begins-at (inl e) found is = inl (subst (λ n. BeginsWith program (ty.Node outer desc) n) e is_it)
    begins-at (inr ne) None is = inr (λ begins. let found = first-inv program outer node desc ne begins in let has = found.3 in cc)
    begins-at (inr ne) (Some s) is = of ne s is s.is_union refl s.fields refl

  known-begins : (fuel : ℕ) (outer : TypeId) (desc : Option Expr) → IsBound program fuel outer → Known (BeginsWith program (ty.Node outer desc) node)
  unfolding KnownInside
  known-begins zero outer desc bound = begins-at zero outer desc bound (λ next d contains b. absurd (bound-zero program outer next b contains)) (known-node outer node) (slice_get program.structures outer.0) refl
  known-begins (suc fuel) outer desc bound =
      begins-at (suc fuel) outer desc bound (λ next d contains b. known-begins fuel next d (deeper-bound program fuel outer next b contains)) (known-node outer node) (slice_get program.structures outer.0) refl

  -- what a type begins with, where it is a structure
  known-type : (fuel : ℕ) → ((outer : TypeId) → IsBound program fuel outer) → (type : Ty) → Known (BeginsWith program type node)
  known-type fuel bound (ty.Node outer desc) = known-begins fuel outer desc (bound outer)
  known-type fuel bound type = inr (λ begins. let found = no-node program type node begins in let t = found.2 in cc)

-- ---- the common structure

abbrev pub BeginsIfActive : Program → TypeId → Field → Type 0
BeginsIfActive program common f = IsTrue (may_be_active f.active) → BeginsWith program f.ty common

known-active : (program : Program) (common : TypeId) (fuel : ℕ) → ((outer : TypeId) → IsBound program fuel outer) → (f : Field) → Known (BeginsIfActive program common f)
known-active program common fuel bound f = go (known-true (may_be_active f.active)) (known-type program common fuel bound f.ty)
  where
    go : Known (IsTrue (may_be_active f.active)) → Known (BeginsWith program f.ty common) → Known (BeginsIfActive program common f)
    go (inr idle) begins = inl (λ active. absurd (idle active))
    go (inl active) (inl begins) = inl (λ a. begins)
    go (inl active) (inr none) = inr (λ f. none (f active))

module _ (program : Program) (s : Structure) (common : TypeId) (fuel : ℕ) (bound : (outer : TypeId) → IsBound program fuel outer) (f : Field) (desc : Option Expr) (contains : Contains s.fields f) (type : f.ty ≡ ty.Node common desc) where
  common-of : Known (IsTrue s.is_union) → Known (IsPlainStruct program common) → Known (IsPlainInside program common) → Known (All (BeginsIfActive program common) s.fields) → Known (IsCommon program s common)
  common-of (inl union) (inl plain) (inl inside) (inl begun) = inl (record { union = union; member = (f, desc, contains, type); plain = plain; plain_inside = inside; begun = begun })
  common-of (inr n) plain inside begun = inr (λ c. n c.union)
  common-of (inl union) (inr n) inside begun = inr (λ c. n c.plain)
  common-of (inl union) (inl plain) (inr n) begun = inr (λ c. n c.plain_inside)
  common-of (inl union) (inl plain) (inl inside) (inr n) = inr (λ c. n c.begun)

  known-at : Known (IsCommon program s common)
  known-at = common-of (known-true s.is_union) (known-plain program common) (known-inside program fuel common (bound common))
      (known-all (BeginsIfActive program common) s.fields (λ g at. known-active program common fuel bound g))

-- whether the type of a member is the common structure of its union
pub known-common : (program : Program) (s : Structure) (common : TypeId) → Settled program → (f : Field) (desc : Option Expr) → Contains s.fields f → f.ty ≡ ty.Node common desc → Known (IsCommon program s common)
known-common program s common settled f desc contains type = known-at program s common MAX_DEPTH (λ outer n inner nests. settled.depth n outer inner nests) f desc contains type
