-- Cycles that are left unsaid do not change which fault is the first.
use Rattle.std.proofs.Common.{◌≡◌, ◌∙◌, ℕ, zero, suc, ◌+◌, Bool, true, false, List, [], ◌∷◌, ◌++◌, Option, Some, None, refl, sym, ap, subst, arith, inl, inr}
use Rattle.std.specs.Prelude.{Contains, IsTrue, ◌⊎◌, ◌||◌, ◌==◌, ◌&&◌, nat_lt, nat_le, slice_get}
use Rattle.std.specs.Option.{option_map_or}
use Rattle.std.proofs.lemmas.Bool.{or_left, true≢false}
use Rattle.std.proofs.lemmas.Bool.Decides.{nat_tests}
use Rattle.std.proofs.lemmas.Option.{none-some, same_Some}
use Rattle.std.proofs.lemmas.List.Elements.{All-contains, All-weaker, All-contains_itself, Contains-append_left, Contains-append_right, Contains-append_cases}
use Rattle.gt_types.specs.declared.faults.Fault.{Fault}
use Rattle.gt_resolve.specs.declared.TheConstants.{BY_VALUE_CYCLE, TOO_MANY}
use Rattle.gt_types.specs.declared.limits.TheConstants.{MAX_STRUCTURES}
use Rattle.gt_scope.specs.declared.declaration.Declaration.{Declaration}
use Rattle.gt_drafts.specs.declared.draft.Draft.{Draft}
use Rattle.gt_drafts.specs.declared.draft.DraftStructure.{DraftStructure}
use Rattle.gt_scope.specs.declared.meaning.TypedefMeaning.{TypedefMeaning}
use Rattle.gt_shapes.specs.Cycles.{comes_before, IsPreceded, Suffice}
use Rattle.gt_drafts.specs.FirstFaults.{is_no_later, fault_if, IsFirstOf}
use Rattle.gt_resolve.specs.Faults.{faults_of, fields_faults, structure_faults, structures_faults, redefinitions, roots_faults, caches_faults}
use Rattle.gt_drafts.specs.Shapes.{has_flag}
use Rattle.gt_resolve.proofs.Firsts.{trans_no_later}
use Rattle.gt_shapes.proofs.SearchLemmas.{Contains_head, Contains_cases, Contains_none}
use Rattle.gt_shapes.proofs.CycleLemmas.{flag_true}

-- the faults of a structure at its tag
abbrev cycle_at : DraftStructure → Fault
cycle_at s = record { number = BY_VALUE_CYCLE; file = s.file; at = s.tag.at }

abbrev too_many_at : DraftStructure → Fault
too_many_at s = record { number = TOO_MANY; file = s.file; at = s.tag.at }

-- ---- a flag at a place

flag_some : (o : Option Bool) → option_map_or (λ flag. flag) o false ≡ true → o ≡ Some true
flag_some None h = absurd (true≢false (sym h))
flag_some (Some b) h = ap (λ (x : Bool). Some x) h

fault_there : (b : Bool) (number file at : ℕ) → b ≡ true → Contains (fault_if b number file at) (record { number = number; file = file; at = at })
fault_there true number file at e = Contains_head _ []
fault_there false number file at e = absurd (true≢false (sym e))

fault_cases : (b : Bool) (number file at : ℕ) (f : Fault) → Contains (fault_if b number file at) f → (b ≡ true) × (f ≡ record { number = number; file = file; at = at })
fault_cases true number file at f has = elim (Contains_cases _ f [] has) [ inl e ↦ (refl, sym e) | inr none ↦ absurd (Contains_none f none) ]
fault_cases false number file at f has = absurd (Contains_none f has)

from_zero : (k : ℕ) → 0 + k ≡ k
from_zero k = omega arith

-- ---- in one of three lists

module _ (a b c : List Fault) (f : Fault) where
  in_first : Contains a f → Contains (a ++ b ++ c) f
  in_first has = Contains-append_left (a ++ b) c f (Contains-append_left a b f has)

  in_second : Contains b f → Contains (a ++ b ++ c) f
  in_second has = Contains-append_left (a ++ b) c f (Contains-append_right a b f has)

  in_third : Contains c f → Contains (a ++ b ++ c) f
  in_third has = Contains-append_right (a ++ b) c f has

  in_three : Contains (a ++ b ++ c) f → Contains a f ⊎ Contains b f ⊎ Contains c f
  in_three has =
      elim (Contains-append_cases (a ++ b) c f has) [
        | inl before ↦ elim (Contains-append_cases a b f before) [ inl first ↦ inl first | inr second ↦ inr (inl second) ]
        | inr third ↦ inr (inr third)
      ]

-- ---- the faults of structures

module _ (cyclic told deep tails : List Bool) where
  abbrev many_if : ℕ → DraftStructure → List Fault
  many_if place s = fault_if (has_flag deep place || nat_le MAX_STRUCTURES place) TOO_MANY s.file s.tag.at

  abbrev fields_of : DraftStructure → List Fault
  fields_of s = fields_faults tails s.file s.is_union [] s.fields

  abbrev cycle_if : List Bool → ℕ → DraftStructure → List Fault
  cycle_if flags place s = fault_if (has_flag flags place) BY_VALUE_CYCLE s.file s.tag.at

  abbrev all_of : List Bool → ℕ → List DraftStructure → List Fault
  all_of flags place ss = structures_faults flags deep tails place ss

  -- a structure at a place of which something is true
  abbrev SomeAt : (DraftStructure → ℕ → Type 0) → ℕ → List DraftStructure → Type 0
  SomeAt P place ss = (k : ℕ) × (s : DraftStructure) × (slice_get ss k ≡ Some s) × P s (place + k)

  abbrev IsCycle : Fault → DraftStructure → ℕ → Type 0
  IsCycle f s i = (has_flag cyclic i ≡ true) × (f ≡ cycle_at s)

  next : (P : DraftStructure → ℕ → Type 0) (place : ℕ) (s : DraftStructure) (ss : List DraftStructure) → SomeAt P (suc place) ss → SomeAt P place (s ∷ ss)
  next P place s ss (k, t, at, is) = (suc k, t, at, subst (P t) (let e : suc place + k ≡ place + suc k = omega arith in e) is)

  here : (P : DraftStructure → ℕ → Type 0) (place : ℕ) (s : DraftStructure) (ss : List DraftStructure) → P s place → SomeAt P place (s ∷ ss)
  here P place s ss is = (0, s, refl, subst (P s) (let e : place ≡ place + 0 = omega arith in e) is)

  -- what is said with one list of flags is said with the other, or is a cycle that is left unsaid
  said_or_cycle : (place : ℕ) (ss : List DraftStructure) (f : Fault) → Contains (all_of cyclic place ss) f → Contains (all_of told place ss) f ⊎ SomeAt (IsCycle f) place ss
  unfolding structures_faults
  said_or_cycle place [] f has = inl has
  said_or_cycle place (s ∷ ss) f has =
      elim (Contains-append_cases (structure_faults cyclic deep tails place s) (all_of cyclic (suc place) ss) f has) [
        | inl of_one ↦ elim (in_three (cycle_if cyclic place s) (many_if place s) (fields_of s) f of_one) [
          | inl cycle ↦ inr (here (IsCycle f) place s ss (fault_cases (has_flag cyclic place) BY_VALUE_CYCLE s.file s.tag.at f cycle))
          | inr (inl many) ↦
              inl (Contains-append_left (structure_faults told deep tails place s) (all_of told (suc place) ss) f (in_second (cycle_if told place s) (many_if place s) (fields_of s) f many))
          | inr (inr field) ↦
              inl (Contains-append_left (structure_faults told deep tails place s) (all_of told (suc place) ss) f (in_third (cycle_if told place s) (many_if place s) (fields_of s) f field))
        ]
        | inr rest ↦ elim (said_or_cycle (suc place) ss f rest) [
          | inl said ↦ inl (Contains-append_right (structure_faults told deep tails place s) (all_of told (suc place) ss) f said)
          | inr cycle ↦ inr (next (IsCycle f) place s ss cycle)
        ]
      ]

  -- a cycle that is told is a fault
  cycle_there : (flags : List Bool) (place k : ℕ) (ss : List DraftStructure) (s : DraftStructure) → slice_get ss k ≡ Some s → has_flag flags (place + k) ≡ true → Contains (all_of flags place ss) (cycle_at s)
  unfolding structures_faults
  cycle_there flags place k [] s at is = absurd (none-some s at)
  cycle_there flags place zero (t ∷ ss) s at is =
      let e : place + 0 ≡ place = omega arith in
      subst (λ (x : DraftStructure). Contains (all_of flags place (t ∷ ss)) (cycle_at x)) (same_Some t s at)
      (Contains-append_left (structure_faults flags deep tails place t) (all_of flags (suc place) ss) (cycle_at t)
      (in_first (cycle_if flags place t) (many_if place t) (fields_of t) (cycle_at t)
      (fault_there (has_flag flags place) BY_VALUE_CYCLE t.file t.tag.at (ap (has_flag flags) (sym e) ∙ is))))
  cycle_there flags place (suc k) (t ∷ ss) s at is =
      let e : suc place + k ≡ place + suc k = omega arith in
      Contains-append_right (structure_faults flags deep tails place t) (all_of flags (suc place) ss) (cycle_at s) (cycle_there flags (suc place) k ss s at (ap (has_flag flags) e ∙ is))

  -- a structure that is too deep is a fault
  deep_there : (place k : ℕ) (ss : List DraftStructure) (s : DraftStructure) → slice_get ss k ≡ Some s → has_flag deep (place + k) ≡ true → Contains (all_of told place ss) (too_many_at s)
  unfolding structures_faults
  deep_there place k [] s at is = absurd (none-some s at)
  deep_there place zero (t ∷ ss) s at is =
      let e : place + 0 ≡ place = omega arith in
      subst (λ (x : DraftStructure). Contains (all_of told place (t ∷ ss)) (too_many_at x)) (same_Some t s at)
      (Contains-append_left (structure_faults told deep tails place t) (all_of told (suc place) ss) (too_many_at t)
      (in_second (cycle_if told place t) (many_if place t) (fields_of t) (too_many_at t)
      (fault_there (has_flag deep place || nat_le MAX_STRUCTURES place) TOO_MANY t.file t.tag.at
      (or_left (has_flag deep place) (nat_le MAX_STRUCTURES place) (ap (has_flag deep) (sym e) ∙ is)))))
  deep_there place (suc k) (t ∷ ss) s at is =
      let e : suc place + k ≡ place + suc k = omega arith in
      Contains-append_right (structure_faults told deep tails place t) (all_of told (suc place) ss) (too_many_at s) (deep_there (suc place) k ss s at (ap (has_flag deep) e ∙ is))

  -- what is said with fewer cycles is said with all
  still_said : ((i : ℕ) → slice_get told i ≡ Some true → slice_get cyclic i ≡ Some true) → (place : ℕ) (ss : List DraftStructure) (f : Fault) → Contains (all_of told place ss) f → Contains (all_of cyclic place ss) f
  unfolding structures_faults
  still_said only place [] f has = has
  still_said only place (s ∷ ss) f has =
      elim (Contains-append_cases (structure_faults told deep tails place s) (all_of told (suc place) ss) f has) [
        | inl of_one ↦ elim (in_three (cycle_if told place s) (many_if place s) (fields_of s) f of_one) [
          | inl cycle ↦
              let c = fault_cases (has_flag told place) BY_VALUE_CYCLE s.file s.tag.at f cycle in
              let flag = flag_true (slice_get cyclic place) (only place (flag_some (slice_get told place) c.0)) in
              Contains-append_left (structure_faults cyclic deep tails place s) (all_of cyclic (suc place) ss) f
              (in_first (cycle_if cyclic place s) (many_if place s) (fields_of s) f
              (subst (λ (x : Fault). Contains (cycle_if cyclic place s) x) (sym c.1) (fault_there (has_flag cyclic place) BY_VALUE_CYCLE s.file s.tag.at flag)))
          | inr (inl many) ↦ Contains-append_left (structure_faults cyclic deep tails place s) (all_of cyclic (suc place) ss) f (in_second (cycle_if cyclic place s) (many_if place s) (fields_of s) f many)
          | inr (inr field) ↦ Contains-append_left (structure_faults cyclic deep tails place s) (all_of cyclic (suc place) ss) f (in_third (cycle_if cyclic place s) (many_if place s) (fields_of s) f field)
        ]
        | inr rest ↦ Contains-append_right (structure_faults cyclic deep tails place s) (all_of cyclic (suc place) ss) f (still_said only (suc place) ss f rest)
      ]

-- ---- all faults

earlier_tag : (f a g b n m : ℕ) → (nat_lt f g || (f == g && nat_lt a b)) ≡ true → (nat_lt f g || (f == g && (nat_lt a b || (a == b && nat_le n m)))) ≡ true
earlier_tag f a g b n m h = grind (arith, nat_tests)

none_contained : (xs : List Fault) → ((f : Fault) → Contains xs f → ⊥) → xs ≡ []
none_contained [] h = refl
none_contained (x ∷ xs) h = absurd (h x (Contains_head x xs))

module _ (ds : List Declaration) (types : List TypedefMeaning) (draft : Draft) (cyclic told deep tails : List Bool) (suffice : Suffice draft.structures deep cyclic told) where
  abbrev ss : List DraftStructure
  ss = draft.structures

  abbrev whole : List Bool → List Fault
  whole flags = faults_of ds types draft flags deep tails

  abbrev before_them : List Fault
  before_them = redefinitions ds types [] ds

  abbrev they : List Bool → List Fault
  they flags = structures_faults flags deep tails 0 ss

  abbrev roots : List Fault
  roots = roots_faults tails 0 draft.roots

  abbrev caches : List Fault
  caches = caches_faults 0 draft.caches

  abbrev up_to_roots : List Bool → List Fault
  up_to_roots flags = before_them ++ they flags ++ roots

  of_structures : (flags : List Bool) (f : Fault) → Contains (they flags) f → Contains (whole flags) f
  unfolding faults_of
  of_structures flags f has = Contains-append_left (up_to_roots flags) caches f (in_second before_them (they flags) roots f has)

  -- a fault of structures, or one of the others, whichever cycles are told
  of_whole : (flags others : List Bool) (f : Fault) → Contains (whole flags) f → Contains (they flags) f ⊎ Contains (whole others) f
  unfolding faults_of
  of_whole flags others f has =
      elim (Contains-append_cases (up_to_roots flags) caches f has) [
        | inl before ↦ elim (in_three before_them (they flags) roots f before) [
          | inl first ↦ inr (Contains-append_left (up_to_roots others) caches f (in_first before_them (they others) roots f first))
          | inr (inl of_one) ↦ inl of_one
          | inr (inr root) ↦ inr (Contains-append_left (up_to_roots others) caches f (in_third before_them (they others) roots f root))
        ]
        | inr cache ↦ inr (Contains-append_right (up_to_roots others) caches f cache)
      ]

  abbrev ToldOrLater : Fault → Type 0
  ToldOrLater f = Contains (whole told) f ⊎ ((g : Fault) × Contains (whole told) g × IsTrue (is_no_later g f))

  later_cycle : (k : ℕ) (s : DraftStructure) (f : Fault) → slice_get ss k ≡ Some s → f ≡ cycle_at s → IsPreceded ss deep k → ToldOrLater f
  later_cycle k s f at is p =
      inr (
        too_many_at p.s,
        of_structures told (too_many_at p.s) (deep_there cyclic told deep tails 0 p.j ss p.s p.is.there (ap (has_flag deep) (from_zero p.j) ∙ p.is.is_deep)),
        subst (λ (x : Fault). IsTrue (is_no_later (too_many_at p.s) x)) (sym is)
            (let same : p.t ≡ s = same_Some p.t s (sym p.there ∙ at) in
            earlier_tag p.s.file p.s.tag.at s.file s.tag.at TOO_MANY BY_VALUE_CYCLE (subst (λ (x : DraftStructure). comes_before p.s x ≡ true) same p.before)),
      )

  told_cycle : (k : ℕ) (s : DraftStructure) (f : Fault) → slice_get ss k ≡ Some s → f ≡ cycle_at s → slice_get told k ≡ Some true → ToldOrLater f
  told_cycle k s f at is tells =
      inl (subst (λ (x : Fault). Contains (whole told) x) (sym is) (of_structures told (cycle_at s) (cycle_there cyclic told deep tails told 0 k ss s at (ap (has_flag told) (from_zero k) ∙ flag_true (slice_get told k) tells))))

  -- a fault with all cycles is one with those that are told, or stands after one
  told_or_later : (f : Fault) → Contains (whole cyclic) f → ToldOrLater f
  told_or_later f has =
      elim (of_whole cyclic told f has) [
        | inl of_one ↦ elim (said_or_cycle cyclic told deep tails 0 ss f of_one) [
          | inl said ↦ inl (of_structures told f said)
          | inr (k, s, at, (cycle, is)) ↦ elim (suffice.known k (flag_some (slice_get cyclic k) (ap (has_flag cyclic) (sym (from_zero k)) ∙ cycle))) [
            | inl tells ↦ told_cycle k s f at is tells
            | inr p ↦ later_cycle k s f at is p
          ]
        ]
        | inr other ↦ inl other
      ]

  still : (f : Fault) → Contains (whole told) f → Contains (whole cyclic) f
  still f has =
      elim (of_whole told cyclic f has) [ inl of_one ↦ of_structures cyclic f (still_said cyclic told deep tails suffice.only 0 ss f of_one) | inr other ↦ other ]

  -- the first of the faults with those cycles that are told is the first of all
  pub first_for : (r : Option Fault) → IsFirstOf (whole told) r → IsFirstOf (whole cyclic) r
  first_for None e =
      none_contained (whole cyclic)
      (λ f has.
      elim (told_or_later f has) [
        | inl tells ↦ Contains_none f (subst (λ (xs : List Fault). Contains xs f) e tells)
        | inr (g, tells, later) ↦ Contains_none g (subst (λ (xs : List Fault). Contains xs g) e tells)
      ])
  first_for (Some first) is =
      record {
        there = still first is.there;
        first =
            All-weaker (Contains (whole cyclic)) (λ other. IsTrue (is_no_later first other))
            (λ f has.
            elim (told_or_later f has) [
              | inl tells ↦ All-contains (λ other. IsTrue (is_no_later first other)) (whole told) f is.first tells
              | inr (g, tells, later) ↦ trans_no_later first g f (All-contains (λ other. IsTrue (is_no_later first other)) (whole told) g is.first tells) later
            ])
            (whole cyclic) (All-contains_itself (whole cyclic));
      }
