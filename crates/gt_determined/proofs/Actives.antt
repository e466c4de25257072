-- The active member of a union may be active.
use Rattle.std.proofs.Common.{◌≡◌, ℕ, Bool, true, IsTrue, ℤ, List, refl, sym, subst, arith, Option, Some, None, ◌⊎◌, inl, inr}
use Rattle.std.specs.Prelude.{slice_get}
use Rattle.std.specs.List.{position_from}
use Rattle.gt_types.specs.declared.program.Active.{Active}
use Rattle.gt_types.specs.declared.program.Active.TheVariants.{Always, Tag, Other, Never}
use Rattle.gt_types.specs.declared.program.Field.{Field}
use Rattle.gt_types.specs.Unions.{may_be_active}
use Rattle.gt_tree.specs.Fits.{is_tag, is_default, active_member, first_place}
use Rattle.gt_tree.proofs.PathBits.{some-same, position-get}

tag-may : (value : Option ℤ) (active : Active) → is_tag value active ≡ true → IsTrue (may_be_active active)
tag-may value (Tag tag) e = refl
tag-may value Other e = refl
tag-may None active e = absurd (cc)
tag-may (Some v) Always e = absurd (cc)
tag-may (Some v) Never e = absurd (cc)

default-may : (active : Active) → is_default active ≡ true → IsTrue (may_be_active active)
default-may Other e = refl
default-may active e = absurd (cc)

one-of-both : (a b : Option ℕ) (place : ℕ) → first_place a b ≡ Some place → (a ≡ Some place) ⊎ (b ≡ Some place)
one-of-both None b place e = inr e
one-of-both (Some i) b place e = inl e

-- what passes at the place that is found
pub passes : {X : Type 0} (p : X → Bool) (xs : List X) (place : ℕ) (x : X) → position_from p 0 xs ≡ Some place → slice_get xs place ≡ Some x → p x ≡ true
passes p xs place x e got =
    let found = position-get p xs 0 place e in
    let there : place ≡ found.0 = omega (arith, found.2) in
    let same : found.1 ≡ x = some-same (slice_get xs place) found.1 x (subst (λ i. slice_get xs i ≡ Some found.1) (sym there) found.3) got in
    subst (λ y. p y ≡ true) same found.4

-- what is at the place that is found
pub found-at : {X : Type 0} (p : X → Bool) (xs : List X) (place : ℕ) → position_from p 0 xs ≡ Some place → (x : X) × (slice_get xs place ≡ Some x)
found-at p xs place e =
    let found = position-get p xs 0 place e in
    let there : place ≡ found.0 = omega (arith, found.2) in
    (found.1, subst (λ i. slice_get xs i ≡ Some found.1) (sym there) found.3)

pub active-may : (value : Option ℤ) (fields : List Field) (place : ℕ) (f : Field) → active_member value fields ≡ Some place → slice_get fields place ≡ Some f → IsTrue (may_be_active f.active)
active-may value fields place f e got = go (one-of-both (position_from (λ g. is_tag value g.active) 0 fields) (position_from (λ g. is_default g.active) 0 fields) place e)
  where
    go : (position_from (λ g. is_tag value g.active) 0 fields ≡ Some place) ⊎ (position_from (λ g. is_default g.active) 0 fields ≡ Some place) → IsTrue (may_be_active f.active)
    go (inl tagged) = tag-may value f.active (passes (λ g. is_tag value g.active) fields place f tagged got)
    go (inr default) = default-may f.active (passes (λ g. is_default g.active) fields place f default got)
