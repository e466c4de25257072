-- Where there is no fault, there are few structures, fields, roots and caches.
use Rattle.std.proofs.Common.{◌≡◌, ℕ, suc, ◌+◌, ◌<◌, ◌≤◌, Bool, true, false, List, [], ◌∷◌, ◌++◌, length, refl, sym, ap, arith}
use Rattle.std.specs.Prelude.{All, nat_le, ◌||◌}
use Rattle.std.proofs.lemmas.Bool.{leb-false, or_parts}
use Rattle.std.proofs.lemmas.List.Elements.{All-nil, All-cons}
use Rattle.gt_types.specs.declared.faults.Fault.{Fault}
use Rattle.gt_items.specs.declared.items.Items.{Items}
use Rattle.gt_resolve.specs.declared.TheConstants.{TOO_MANY}
use Rattle.gt_types.specs.declared.limits.TheConstants.{MAX_STRUCTURES, MAX_FIELDS, MAX_ROOTS, MAX_CACHES}
use Rattle.gt_drafts.specs.declared.draft.Draft.{Draft}
use Rattle.gt_drafts.specs.declared.draft.DraftCache.{DraftCache}
use Rattle.gt_drafts.specs.declared.draft.DraftField.{DraftField}
use Rattle.gt_drafts.specs.declared.draft.DraftRoot.{DraftRoot}
use Rattle.gt_drafts.specs.declared.draft.DraftStructure.{DraftStructure}
use Rattle.gt_resolve.specs.Faults.{cache_faults, caches_faults, faults_of, field_faults, fields_faults, redefinitions, root_faults, roots_faults, structure_faults, structures_faults}
use Rattle.gt_drafts.specs.FirstFaults.{fault_if}
use Rattle.gt_drafts.specs.Shapes.{has_flag}
use Rattle.gt_scope.specs.Declarations.{declarations}
use Rattle.gt_resolve.specs.Resolution.{Resolves}

pub not_nil : {X : Type 0} (x : X) (xs : List X) → x ∷ xs ≡ [] → ⊥
not_nil x xs e = let n : suc (length xs) ≡ 0 = ap (λ ys. length ys) e in omega (arith, n)

nil_front : {X : Type 0} (xs ys : List X) → xs ++ ys ≡ [] → xs ≡ []
nil_front [] ys e = refl
nil_front (x ∷ xs) ys e = absurd (not_nil x (xs ++ ys) e)

nil_back : {X : Type 0} (xs ys : List X) → xs ++ ys ≡ [] → ys ≡ []
nil_back [] ys e = e
nil_back (x ∷ xs) ys e = absurd (not_nil x (xs ++ ys) e)

no_fault : (b : Bool) (number file at : ℕ) → fault_if b number file at ≡ [] → b ≡ false
no_fault true number file at e = absurd (not_nil _ [] e)
no_fault false number file at e = refl

below : (most place : ℕ) → nat_le most place ≡ false → place < most
below most place e = leb-false most place e

few_roots : (tails : List Bool) (place : ℕ) (rs : List DraftRoot) → place ≤ MAX_ROOTS → roots_faults tails place rs ≡ [] → place + length rs ≤ MAX_ROOTS
unfolding roots_faults
few_roots tails place [] l e = omega (arith, l)
few_roots tails place (r ∷ rs) l e =
    let one = nil_front (root_faults tails place r) (roots_faults tails (suc place) rs) e in
    let b = no_fault (nat_le MAX_ROOTS place) TOO_MANY r.file r.name.at (nil_back _ (fault_if (nat_le MAX_ROOTS place) TOO_MANY r.file r.name.at) one) in
    let rest : suc place + length rs ≤ MAX_ROOTS =
    few_roots tails (suc place) rs (let k = below MAX_ROOTS place b in omega (arith, k)) (nil_back (root_faults tails place r) (roots_faults tails (suc place) rs) e) in
    omega (arith, rest)

few_caches : (place : ℕ) (cs : List DraftCache) → place ≤ MAX_CACHES → caches_faults place cs ≡ [] → place + length cs ≤ MAX_CACHES
unfolding caches_faults
few_caches place [] l e = omega (arith, l)
few_caches place (c ∷ cs) l e =
    let one = nil_front (cache_faults place c) (caches_faults (suc place) cs) e in
    let b = no_fault (nat_le MAX_CACHES place) TOO_MANY c.file c.name.at (nil_back _ (fault_if (nat_le MAX_CACHES place) TOO_MANY c.file c.name.at) one) in
    let rest : suc place + length cs ≤ MAX_CACHES =
    few_caches (suc place) cs (let k = below MAX_CACHES place b in omega (arith, k)) (nil_back (cache_faults place c) (caches_faults (suc place) cs) e) in
    omega (arith, rest)

length_push : {X : Type 0} (xs : List X) (x : X) → length (xs ++ x ∷ []) ≡ suc (length xs)
length_push [] x = refl
length_push (y ∷ xs) x = ap suc (length_push xs x)

few_fields : (tails : List Bool) (file : ℕ) (in_union : Bool) (before : List (List ℕ)) (fs : List DraftField) → length before ≤ MAX_FIELDS
    → fields_faults tails file in_union before fs ≡ [] → length before + length fs ≤ MAX_FIELDS
unfolding fields_faults
few_fields tails file in_union before [] l e = omega (arith, l)
few_fields tails file in_union before (f ∷ fs) l e =
    let more = before ++ f.name.word ∷ [] in
    let one = nil_front (field_faults tails file in_union before f) (fields_faults tails file in_union more fs) e in
    let b = no_fault (nat_le MAX_FIELDS (length before)) TOO_MANY file f.name.at (nil_back _ (fault_if (nat_le MAX_FIELDS (length before)) TOO_MANY file f.name.at) one) in
    let k = below MAX_FIELDS (length before) b in
    let size : length more ≡ suc (length before) = length_push before f.name.word in
    let rest : length more + length fs ≤ MAX_FIELDS =
    few_fields tails file in_union more fs (omega (arith, k, size)) (nil_back (field_faults tails file in_union before f) (fields_faults tails file in_union more fs) e) in
    omega (arith, rest, size)

abbrev HasFew : DraftStructure → Type 0
HasFew s = length s.fields ≤ MAX_FIELDS

few_of_each : (cyclic deep tails : List Bool) (place : ℕ) (ss : List DraftStructure) → structures_faults cyclic deep tails place ss ≡ [] → All HasFew ss
unfolding structures_faults
few_of_each cyclic deep tails place [] e = All-nil HasFew
few_of_each cyclic deep tails place (s ∷ ss) e =
    let one = nil_front (structure_faults cyclic deep tails place s) (structures_faults cyclic deep tails (suc place) ss) e in
    let fields = nil_back _ (fields_faults tails s.file s.is_union [] s.fields) one in
    let few : 0 + length s.fields ≤ MAX_FIELDS = few_fields tails s.file s.is_union [] s.fields (omega arith) fields in
    All-cons HasFew s ss (omega (arith, few))
    (few_of_each cyclic deep tails (suc place) ss (nil_back (structure_faults cyclic deep tails place s) (structures_faults cyclic deep tails (suc place) ss) e))

few_structures : (cyclic deep tails : List Bool) (place : ℕ) (ss : List DraftStructure) → place ≤ MAX_STRUCTURES → structures_faults cyclic deep tails place ss ≡ []
    → place + length ss ≤ MAX_STRUCTURES
unfolding structures_faults
few_structures cyclic deep tails place [] l e = omega (arith, l)
few_structures cyclic deep tails place (s ∷ ss) l e =
    let one = nil_front (structure_faults cyclic deep tails place s) (structures_faults cyclic deep tails (suc place) ss) e in
    let tag = nil_front _ (fields_faults tails s.file s.is_union [] s.fields) one in
    let many = nil_back _ (fault_if (has_flag deep place || nat_le MAX_STRUCTURES place) TOO_MANY s.file s.tag.at) tag in
    let b = or_parts (has_flag deep place) (nat_le MAX_STRUCTURES place) (no_fault (has_flag deep place || nat_le MAX_STRUCTURES place) TOO_MANY s.file s.tag.at many) in
    let k = below MAX_STRUCTURES place b.1 in
    let rest : suc place + length ss ≤ MAX_STRUCTURES =
    few_structures cyclic deep tails (suc place) ss (omega (arith, k))
    (nil_back (structure_faults cyclic deep tails place s) (structures_faults cyclic deep tails (suc place) ss) e) in
    omega (arith, rest)

module _ (files : List Items) (draft : Draft) (is : Resolves files draft) where
  abbrev structures : List Fault
  structures = structures_faults is.cyclic is.deep is.tails 0 draft.structures

  abbrev roots : List Fault
  roots = roots_faults is.tails 0 draft.roots

  abbrev caches : List Fault
  caches = caches_faults 0 draft.caches

  abbrev second : List Fault
  second = redefinitions (declarations files) is.types [] (declarations files)

  none : second ++ structures ++ roots ++ caches ≡ []
  unfolding faults_of
  none = sym is.faulty

  no_roots : second ++ structures ++ roots ≡ []
  no_roots = nil_front (second ++ structures ++ roots) caches none

  no_structures : structures ≡ []
  no_structures = nil_back second structures (nil_front (second ++ structures) roots no_roots)

  pub structures_are_few : length draft.structures ≤ MAX_STRUCTURES
  structures_are_few =
      let l : 0 + length draft.structures ≤ MAX_STRUCTURES = few_structures is.cyclic is.deep is.tails 0 draft.structures (omega arith) no_structures in omega (arith, l)

  pub fields_are_few : All HasFew draft.structures
  fields_are_few = few_of_each is.cyclic is.deep is.tails 0 draft.structures no_structures

  pub roots_are_few : length draft.roots ≤ MAX_ROOTS
  roots_are_few =
      let l : 0 + length draft.roots ≤ MAX_ROOTS = few_roots is.tails 0 draft.roots (omega arith) (nil_back (second ++ structures) roots no_roots) in omega (arith, l)

  pub caches_are_few : length draft.caches ≤ MAX_CACHES
  caches_are_few =
      let l : 0 + length draft.caches ≤ MAX_CACHES = few_caches 0 draft.caches (omega arith) (nil_back (second ++ structures ++ roots) caches none) in omega (arith, l)
