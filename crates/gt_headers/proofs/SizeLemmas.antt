-- A program has at most one fault of its sizes, and none where it is laid out within the limits.
use Rattle.std.proofs.Common.{◌≡◌, ℕ, ◌*◌, ◌<◌, ◌≤◌, true, false, List, [], ◌∷◌, length, refl, sym, ap, subst, ◌∙◌, ◌⊎◌, inl, inr, Option, Some, None, arith}
use Rattle.std.specs.Prelude.{slice_index, is_some, ◌||◌, IsTrue, IfSome}
use Rattle.std.specs.List.{All}
use Rattle.std.proofs.lemmas.Bool.{cases_lt}
use Rattle.std.proofs.lemmas.Bool.Decides.{nat_tests}
use Rattle.std.proofs.lemmas.Option.{slice_get_within}
use Rattle.std.proofs.lemmas.List.{get_or_past, length-map}
use Rattle.std.proofs.lemmas.List.Elements.{All-contains}
use Rattle.gt_types.specs.declared.faults.Fault.{Fault}
use Rattle.gt_types.specs.declared.program.Program.{Program}
use Rattle.gt_types.specs.Settled.{Settled}
use Rattle.gt_items.specs.declared.items.Items.{Items}
use Rattle.gt_layout.specs.declared.planes.Layouts.{Layouts}
use Rattle.gt_layout.specs.declared.planes.FieldSpot.{FieldSpot}
use Rattle.gt_layout.specs.declared.storages.Storage.{Storage}
use Rattle.gt_layout.specs.Storages.{storage_of}
use Rattle.gt_layout.specs.Places.{ends}
use Rattle.gt_layout.specs.Planes.{IsLaidOut, root_storages}
use Rattle.gt_layout.specs.Excess.{Exceeds, IsBeyond, IsTooLarge, IsWithin, IsFirst as IsFirstPlace}
use Rattle.gt_layout.specs.Laws.{HasOneLayout}
use Rattle.gt_drafts.specs.FirstFaults.{IsFirst, is_no_later}
use Rattle.gt_resolve.specs.Placings.{IsThere, faults_from, placed}
use Rattle.gt_headers.specs.Sizes.{IsSizeFault}

-- ---- the first of some places, and of some faults, is one

first_place_once : (P : ℕ → Type 0) (a b : Option ℕ) → IsFirstPlace P a → IsFirstPlace P b → a ≡ b
first_place_once P None None p q = refl
first_place_once P None (Some b) p q = absurd (p b q.0)
first_place_once P (Some a) None p q = absurd (q a p.0)
first_place_once P (Some a) (Some b) p q = by (cases_lt a b) (cases_lt b a)
  where
    by : (a < b) ⊎ (b ≤ a) → (b < a) ⊎ (a ≤ b) → Some a ≡ Some b
    by (inl less) other = absurd (q.1 a less p.0)
    by (inr le) (inl less) = absurd (p.1 b less q.0)
    by (inr le) (inr ge) = let same : a ≡ b = omega (arith, le, ge) in ap (λ (n : ℕ). Some n) same

same_file : (a b : Fault) → IsTrue (is_no_later a b) → IsTrue (is_no_later b a) → a.file ≡ b.file
same_file a b h k = grind (arith, nat_tests)

same_at : (a b : Fault) → IsTrue (is_no_later a b) → IsTrue (is_no_later b a) → a.at ≡ b.at
same_at a b h k = grind (arith, nat_tests)

same_number : (a b : Fault) → IsTrue (is_no_later a b) → IsTrue (is_no_later b a) → a.number ≡ b.number
same_number a b h k = grind (arith, nat_tests)

first_once : (faults : List Fault) (a b : Fault) → IsFirst faults a → IsFirst faults b → a ≡ b
first_once faults a b p q =
    let before : IsTrue (is_no_later a b) = All-contains (λ (f : Fault). IsTrue (is_no_later a f)) faults b p.first q.there in
    let after : IsTrue (is_no_later b a) = All-contains (λ (f : Fault). IsTrue (is_no_later b f)) faults a q.first p.there in
    let number = same_number a b before after in
    let file = same_file a b before after in
    let at = same_at a b before after in
    λ i. record { number = number i; file = file i; at = at i }

-- ---- one fault

module _ (one_layout : (program : Program) → Settled program → HasOneLayout program) where
  same_layouts : (program : Program) (a b : Layouts) → Settled program → IsLaidOut program a → IsLaidOut program b → a ≡ b
  same_layouts program a b settled p q = let one = one_layout program settled in one.2 a p ∙ sym (one.2 b q)

  pub one_size_fault : (files : List Items) (program : Program) (a b : Fault) → Settled program → IsSizeFault files program a → IsSizeFault files program b → a ≡ b
  one_size_fault files program a b settled p q =
      let same = same_layouts program p.exceeds.layouts q.exceeds.layouts settled p.exceeds.laid_out q.exceeds.laid_out in
      let structure : p.structure ≡ q.structure =
      first_place_once (IsTooLarge program q.exceeds.layouts.structures) p.structure q.structure
      (subst (λ (l : Layouts). IsFirstPlace (IsTooLarge program l.structures) p.structure) same p.exceeds.first_structure) q.exceeds.first_structure in
      let root : p.root ≡ q.root =
      first_place_once (IsBeyond program q.exceeds.layouts) p.root q.root
      (subst (λ (l : Layouts). IsFirstPlace (IsBeyond program l) p.root) same p.exceeds.first_root) q.exceeds.first_root in
      let list : placed files p.structure p.root ≡ placed files q.structure q.root = ap (λ (o : Option ℕ). placed files o p.root) structure ∙ ap (placed files q.structure) root in
      first_once (placed files q.structure q.root) a b (subst (λ (faults : List Fault). IsFirst faults a) list p.first) q.first

  -- ---- none within the limits

  end_within : (ns : List ℕ) (bound place : ℕ) → All (λ n. n ≤ bound) ns → (place < length ns) ⊎ (length ns ≤ place) → slice_index ns place ≤ bound
  end_within ns bound place all (inl within) = all place 0 within
  end_within ns bound place all (inr past) = let none = get_or_past ns place 0 past in omega (arith, none)

  no_beyond : (program : Program) (layouts : Layouts) (place : ℕ) → IsLaidOut program layouts → IsWithin program layouts → ¬ IsBeyond program layouts place
  no_beyond program layouts place laid within beyond =
      let es = ends (root_storages layouts.structures program.roots) layouts.statics.fields in
      let end = end_within es (8 * layouts.statics.size) place laid.statics.size.room.inside (cases_lt place (length es)) in omega (arith, beyond, end, within.statics)

  no_structure : (program : Program) (layouts : Layouts) (o : Option ℕ) → IsWithin program layouts → IsFirstPlace (IsTooLarge program layouts.structures) o → o ≡ None
  no_structure program layouts None within first = refl
  no_structure program layouts (Some place) within first = absurd (within.structures place first.0)

  no_root : (program : Program) (layouts : Layouts) (o : Option ℕ) → IsLaidOut program layouts → IsWithin program layouts → IsFirstPlace (IsBeyond program layouts) o → o ≡ None
  no_root program layouts None laid within first = refl
  no_root program layouts (Some place) laid within first = absurd (no_beyond program layouts place laid within first.0)

  pub within_no_fault : (files : List Items) (program : Program) (layouts : Layouts) → Settled program → IsLaidOut program layouts → IsWithin program layouts
      → (fault : Fault) → ¬ IsSizeFault files program fault
  within_no_fault files program layouts settled laid within fault f =
      let same = same_layouts program f.exceeds.layouts layouts settled f.exceeds.laid_out laid in
      let structure : f.structure ≡ None =
      no_structure program layouts f.structure within (subst (λ (l : Layouts). IsFirstPlace (IsTooLarge program l.structures) f.structure) same f.exceeds.first_structure) in
      let root : f.root ≡ None =
      no_root program layouts f.root laid within (subst (λ (l : Layouts). IsFirstPlace (IsBeyond program l) f.root) same f.exceeds.first_root) in
      not_both structure root f.exceeds.some
    where
      not_both : f.structure ≡ None → f.root ≡ None → ((f.structure ≡ None → ⊥) ⊎ (f.root ≡ None → ⊥)) → ⊥
      not_both s r (inl some) = some s
      not_both s r (inr some) = some r

-- ---- what is too large is there

structure_within : (program : Program) (layouts : Layouts) (o : Option ℕ) → IsFirstPlace (IsTooLarge program layouts.structures) o → IfSome o (λ n. n < length program.structures)
structure_within program layouts None first = tt
structure_within program layouts (Some place) first = slice_get_within program.structures place first.0.0 first.0.2

few_ends : (fs : List Storage) (ss : List FieldSpot) → length (ends fs ss) ≤ length fs
few_ends [] ss = omega arith
few_ends (f ∷ fs) [] = omega arith
few_ends (f ∷ fs) (s ∷ ss) = let rest = few_ends fs ss in omega (arith, rest)

root_within : (program : Program) (layouts : Layouts) (o : Option ℕ) → IsFirstPlace (IsBeyond program layouts) o → IfSome o (λ n. n < length program.roots)
root_within program layouts None first = tt
root_within program layouts (Some place) first = by (cases_lt place (length es))
  where
    es : List ℕ
    es = ends (root_storages layouts.structures program.roots) layouts.statics.fields

    by : (place < length es) ⊎ (length es ≤ place) → place < length program.roots
    by (inl within) =
        let few = few_ends (root_storages layouts.structures program.roots) layouts.statics.fields in
        let many = length-map program.roots (λ r. storage_of layouts.structures r.ty) in omega (arith, within, few, many)
    by (inr past) = let none = get_or_past es place 0 past in let beyond = first.0 in absurd (omega (arith, none, beyond))

-- so many faults, which are as many as the structures or the roots
there_by : (o : Option ℕ) (faults : List Fault) (count : ℕ) → count ≡ length faults → IfSome o (λ n. n < count) → IsThere faults o
there_by None faults count many h = tt
there_by (Some n) faults count many h = omega (arith, many, h)

pub structure_there : (files : List Items) (program : Program) (structure root : Option ℕ) → Exceeds program structure root → length program.structures ≡ length (faults_from true 1 files)
    → IsThere (faults_from true 1 files) structure
structure_there files program structure root e many = there_by structure (faults_from true 1 files) (length program.structures) many (structure_within program e.layouts structure e.first_structure)

pub root_there : (files : List Items) (program : Program) (structure root : Option ℕ) → Exceeds program structure root → length program.roots ≡ length (faults_from false 1 files)
    → IsThere (faults_from false 1 files) root
root_there files program structure root e many = there_by root (faults_from false 1 files) (length program.roots) many (root_within program e.layouts root e.first_root)

-- one of the two is given
pub some_given : (program : Program) (structure root : Option ℕ) → Exceeds program structure root → IsTrue (is_some structure || is_some root)
some_given program structure root e = by structure root e.some
  where
    by : (a b : Option ℕ) → ((a ≡ None → ⊥) ⊎ (b ≡ None → ⊥)) → IsTrue (is_some a || is_some b)
    by (Some n) b some = refl
    by None (Some n) some = refl
    by None None (inl some) = absurd (some refl)
    by None None (inr some) = absurd (some refl)
