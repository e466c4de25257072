-- Without faults no structure contains itself, none is too deep, and what is of a tail type stands where it may.
use Rattle.std.proofs.Common.{◌≡◌, ◌∙◌, ℕ, zero, suc, ◌+◌, ◌<◌, ◌≤◌, ◌-◌, ◌≢◌, Bool, true, false, not, ◌&&◌, ◌||◌, List, [], ◌∷◌, ◌++◌, length, Option, Some, refl, sym, ap, subst, arith, inl, inr, nat_le, slice_get}
use Rattle.std.specs.Prelude.{All, AllPairs, Contains}
use Rattle.std.specs.Option.{option_map_or}
use Rattle.std.specs.List.{list_any}
use Rattle.std.specs.Str.{bytes_eq}
use Rattle.std.proofs.lemmas.Bool.{or_parts, and_cases, true≢false, cases_lt}
use Rattle.std.proofs.lemmas.Option.{slice_get_within}
use Rattle.std.proofs.lemmas.List.Elements.{All-nil, All-cons, All-weaker}
use Rattle.std.proofs.lemmas.List.Kept.{AllPairs-cons}
use Rattle.gt_items.specs.declared.items.RawOption.{RawOption}
use Rattle.gt_resolve.specs.declared.TheConstants.{REDEFINED, UNDEFINED, BY_VALUE_CYCLE, BAD_BOUND, TOO_MANY}
use Rattle.gt_types.specs.declared.limits.TheConstants.{MAX_STRUCTURES, MAX_FIELDS, MAX_ROOTS, MAX_DEPTH}
use Rattle.gt_drafts.specs.declared.types.DeclaredType.{DeclaredType}
use Rattle.gt_drafts.specs.declared.draft.DraftField.{DraftField}
use Rattle.gt_drafts.specs.declared.draft.DraftRoot.{DraftRoot}
use Rattle.gt_drafts.specs.declared.draft.DraftStructure.{DraftStructure}
use Rattle.gt_drafts.specs.Options.{has_skip}
use Rattle.gt_drafts.specs.FirstFaults.{fault_if}
use Rattle.gt_drafts.specs.Undefined.{is_undefined_type}
use Rattle.gt_resolve.specs.Faults.{is_bad_type, is_misused_tail, fields_faults, structure_faults, structures_faults, roots_faults}
use Rattle.gt_drafts.specs.Shapes.{has_flag, Holds, directly, through, IsNested, IsTail, struct_tail, union_tail, AreShapes, held_at, held_type, is_nil}
use Rattle.gt_sound.proofs.Lists.{nil_front, nil_back, no_fault, AllPairs-nil}
use Rattle.gt_sound.proofs.Distinct.{any_none, unequal, All-left, All-last}

-- ---- what stands without a fault

module _ (tails : List Bool) where
  -- the type of a field or of a root has no fault
  abbrev pub IsFree : Bool → List RawOption → DeclaredType → Type 0
  IsFree in_union options t = (is_undefined_type options t ≡ false) × (is_bad_type tails in_union options t ≡ false)

  pub free_fields : (file : ℕ) (in_union : Bool) (before : List (List ℕ)) (fs : List DraftField) → fields_faults tails file in_union before fs ≡ []
      → All (λ f. IsFree in_union f.options f.ty) fs
  unfolding fields_faults
  free_fields file in_union before [] none = All-nil (λ f. IsFree in_union f.options f.ty)
  free_fields file in_union before (f ∷ fs) none =
      let again = fault_if (list_any (λ name. bytes_eq name f.name.word) before) REDEFINED file f.name.at in
      let unknown = fault_if (is_undefined_type f.options f.ty) UNDEFINED file f.name.at in
      let bad = fault_if (is_bad_type tails in_union f.options f.ty) BAD_BOUND file f.name.at in
      let many = fault_if (nat_le MAX_FIELDS (length before)) TOO_MANY file f.name.at in
      let rest = fields_faults tails file in_union (before ++ f.name.word ∷ []) fs in
      let one : again ++ unknown ++ bad ++ many ≡ [] = nil_front (again ++ unknown ++ bad ++ many) rest none in
      let three = nil_front (again ++ unknown ++ bad) many one in
      All-cons (λ x. IsFree in_union x.options x.ty) f fs (
        no_fault (is_undefined_type f.options f.ty) UNDEFINED file f.name.at (nil_back again unknown (nil_front (again ++ unknown) bad three)),
        no_fault (is_bad_type tails in_union f.options f.ty) BAD_BOUND file f.name.at (nil_back (again ++ unknown) bad three),
      )
      (free_fields file in_union (before ++ f.name.word ∷ []) fs (nil_back (again ++ unknown ++ bad ++ many) rest none))

  -- no field has the name of one before
  apart_fields : (file : ℕ) (in_union : Bool) (before : List (List ℕ)) (fs : List DraftField) → fields_faults tails file in_union before fs ≡ []
      → All (λ f. All (λ name. name ≢ f.name.word) before) fs × AllPairs (λ f g. f.name.word ≢ g.name.word) fs
  unfolding fields_faults
  apart_fields file in_union before [] none = (All-nil (λ f. All (λ name. name ≢ f.name.word) before), AllPairs-nil (λ f g. f.name.word ≢ g.name.word))
  apart_fields file in_union before (f ∷ fs) none =
      let again = fault_if (list_any (λ name. bytes_eq name f.name.word) before) REDEFINED file f.name.at in
      let unknown = fault_if (is_undefined_type f.options f.ty) UNDEFINED file f.name.at in
      let bad = fault_if (is_bad_type tails in_union f.options f.ty) BAD_BOUND file f.name.at in
      let many = fault_if (nat_le MAX_FIELDS (length before)) TOO_MANY file f.name.at in
      let rest = fields_faults tails file in_union (before ++ f.name.word ∷ []) fs in
      let one : again ++ unknown ++ bad ++ many ≡ [] = nil_front (again ++ unknown ++ bad ++ many) rest none in
      let first = nil_front again unknown (nil_front (again ++ unknown) bad (nil_front (again ++ unknown ++ bad) many one)) in
      let here = any_none (λ name. bytes_eq name f.name.word) before (no_fault (list_any (λ name. bytes_eq name f.name.word) before) REDEFINED file f.name.at first) in
      let more = apart_fields file in_union (before ++ f.name.word ∷ []) fs (nil_back (again ++ unknown ++ bad ++ many) rest none) in (
        All-cons (λ g. All (λ name. name ≢ g.name.word) before) f fs
            (All-weaker (λ name. bytes_eq name f.name.word ≡ false) (λ name. name ≢ f.name.word) (λ name h. unequal name f.name.word h) before here)
            (All-weaker (λ g. All (λ name. name ≢ g.name.word) (before ++ f.name.word ∷ [])) (λ g. All (λ name. name ≢ g.name.word) before)
            (λ g h. All-left (λ name. name ≢ g.name.word) before (f.name.word ∷ []) h) fs more.0),
        AllPairs-cons (λ g h. g.name.word ≢ h.name.word) f fs
            (All-weaker (λ g. All (λ name. name ≢ g.name.word) (before ++ f.name.word ∷ [])) (λ g. f.name.word ≢ g.name.word)
            (λ g h. All-last (λ name. name ≢ g.name.word) before f.name.word h) fs more.0) more.1,
      )

  -- what is known of a structure without faults
  pub record IsFreeStructure (s : DraftStructure) : Type 0 where
    pub fields : All (λ f. IsFree s.is_union f.options f.ty) s.fields
    pub distinct : AllPairs (λ f g. f.name.word ≢ g.name.word) s.fields

  pub free_structures : (cyclic deep : List Bool) (place : ℕ) (ss : List DraftStructure) → structures_faults cyclic deep tails place ss ≡ [] → All IsFreeStructure ss
  unfolding structures_faults
  free_structures cyclic deep place [] none = All-nil IsFreeStructure
  free_structures cyclic deep place (s ∷ ss) none =
      let first = structure_faults cyclic deep tails place s in
      let rest = structures_faults cyclic deep tails (suc place) ss in
      let cycle = fault_if (has_flag cyclic place) BY_VALUE_CYCLE s.file s.tag.at in
      let many = fault_if (has_flag deep place || nat_le MAX_STRUCTURES place) TOO_MANY s.file s.tag.at in
      let fields = nil_back (cycle ++ many) (fields_faults tails s.file s.is_union [] s.fields) (nil_front first rest none) in
      All-cons IsFreeStructure s ss
      (record { fields = free_fields s.file s.is_union [] s.fields fields; distinct = (apart_fields s.file s.is_union [] s.fields fields).1 })
      (free_structures cyclic deep (suc place) ss (nil_back first rest none))

  pub free_roots : (place : ℕ) (rs : List DraftRoot) → roots_faults tails place rs ≡ [] → All (λ r. IsFree false r.options r.ty) rs
  unfolding roots_faults
  free_roots place [] none = All-nil (λ r. IsFree false r.options r.ty)
  free_roots place (r ∷ rs) none =
      let unknown = fault_if (is_undefined_type r.options r.ty) UNDEFINED r.file r.name.at in
      let bad = fault_if (is_bad_type tails false r.options r.ty) BAD_BOUND r.file r.name.at in
      let many = fault_if (nat_le MAX_ROOTS place) TOO_MANY r.file r.name.at in
      let rest = roots_faults tails (suc place) rs in
      let one : unknown ++ bad ++ many ≡ [] = nil_front (unknown ++ bad ++ many) rest none in
      let two = nil_front (unknown ++ bad) many one in
      All-cons (λ x. IsFree false x.options x.ty) r rs
      (no_fault (is_undefined_type r.options r.ty) UNDEFINED r.file r.name.at (nil_front unknown bad two), no_fault (is_bad_type tails false r.options r.ty) BAD_BOUND r.file r.name.at (nil_back unknown bad two))
      (free_roots (suc place) rs (nil_back (unknown ++ bad ++ many) rest none))

  -- no flag of a cycle or of a depth is set
  no_flags : (cyclic deep : List Bool) (place : ℕ) (ss : List DraftStructure) → structures_faults cyclic deep tails place ss ≡ []
      → (i : ℕ) → i < length ss → (has_flag cyclic (place + i) ≡ false) × (has_flag deep (place + i) ≡ false)
  unfolding structures_faults
  no_flags cyclic deep place [] none i l = absurd (omega (arith, l))
  no_flags cyclic deep place (s ∷ ss) none zero l =
      let first = structure_faults cyclic deep tails place s in
      let rest = structures_faults cyclic deep tails (suc place) ss in
      let cycle = fault_if (has_flag cyclic place) BY_VALUE_CYCLE s.file s.tag.at in
      let many = fault_if (has_flag deep place || nat_le MAX_STRUCTURES place) TOO_MANY s.file s.tag.at in
      let tag = nil_front (cycle ++ many) (fields_faults tails s.file s.is_union [] s.fields) (nil_front first rest none) in
      let same : place ≡ place + 0 = omega arith in (
        subst (λ n. has_flag cyclic n ≡ false) same (no_fault (has_flag cyclic place) BY_VALUE_CYCLE s.file s.tag.at (nil_front cycle many tag)),
        subst (λ n. has_flag deep n ≡ false) same
            (or_parts (has_flag deep place) (nat_le MAX_STRUCTURES place) (no_fault (has_flag deep place || nat_le MAX_STRUCTURES place) TOO_MANY s.file s.tag.at (nil_back cycle many tag))).0,
      )
  no_flags cyclic deep place (s ∷ ss) none (suc i) l =
      let first = structure_faults cyclic deep tails place s in
      let rest = structures_faults cyclic deep tails (suc place) ss in
      let same : suc place + i ≡ place + suc i = omega arith in
      let more = no_flags cyclic deep (suc place) ss (nil_back first rest none) i (omega (arith, l)) in
      (subst (λ n. has_flag cyclic n ≡ false) same more.0, subst (λ n. has_flag deep n ≡ false) same more.1)

  pub no_flag : (cyclic deep : List Bool) (ss : List DraftStructure) → structures_faults cyclic deep tails 0 ss ≡ []
      → (i : ℕ) → i < length ss → (has_flag cyclic i ≡ false) × (has_flag deep i ≡ false)
  no_flag cyclic deep ss none i l =
      let more = no_flags cyclic deep 0 ss none i l in
      let same : 0 + i ≡ i = omega arith in
      (subst (λ n. has_flag cyclic n ≡ false) same more.0, subst (λ n. has_flag deep n ≡ false) same more.1)

-- ---- flags

set_flag : (o : Option Bool) → o ≡ Some true → option_map_or (λ flag. flag) o false ≡ true
set_flag o h = ap (λ u. option_map_or (λ flag. flag) u false) h

none_there : {X : Type 0} (x : X) → Contains [] x → ⊥
none_there x (k, l, e) = absurd (omega (arith, l))

held_within : (ss : List DraftStructure) (i j : ℕ) → Contains (held_at ss i) j → i < length ss
held_within [] i j has = absurd (none_there j has)
held_within (s ∷ ss) zero j has = omega arith
held_within (s ∷ ss) (suc i) j has = let l = held_within ss i j has in omega (arith, l)

holds_within : (ss : List DraftStructure) (i j : ℕ) → Holds ss i j → i < length ss
holds_within ss i j (directly has) = held_within ss i j has
holds_within ss i j (through {j = k} has holds) = held_within ss i k has

less_nested : (ss : List DraftStructure) (n i : ℕ) → IsNested ss (suc n) i → IsNested ss n i
less_nested ss zero i h = tt
less_nested ss (suc n) i (j, has, more) = (j, has, less_nested ss n j more)

-- fewer containments stand one inside another too
nested_least : (ss : List DraftStructure) (more n i : ℕ) → IsNested ss (more + n) i → IsNested ss n i
nested_least ss zero n i h = let same : 0 + n ≡ n = omega arith in subst (λ k. IsNested ss k i) same h
nested_least ss (suc more) n i h =
    let same : suc more + n ≡ suc (more + n) = omega arith in
    nested_least ss more n i (less_nested ss (more + n) i (subst (λ k. IsNested ss k i) same h))

nested_within : (ss : List DraftStructure) (n i : ℕ) → IsNested ss (suc n) i → i < length ss
nested_within ss n i (j, has, more) = held_within ss i j has

tail_within : (ss : List DraftStructure) (i : ℕ) → IsTail ss i → i < length ss
tail_within ss i (struct_tail s is none ends) = slice_get_within ss i s is
tail_within ss i (union_tail s is union has tail) = slice_get_within ss i s is

module _ (ss : List DraftStructure) (cyclic deep tails : List Bool) (shapes : AreShapes ss cyclic deep tails) where
  pub no_cycle : structures_faults cyclic deep tails 0 ss ≡ [] → (i : ℕ) → ¬ Holds ss i i
  no_cycle none i holds =
      let l = holds_within ss i i holds in
      true≢false (sym (set_flag (slice_get cyclic i) ((shapes.cycles i l).1 holds)) ∙ (no_flag tails cyclic deep ss none i l).0)

  not_deep : structures_faults cyclic deep tails 0 ss ≡ [] → (i : ℕ) → ¬ IsNested ss (suc MAX_DEPTH) i
  not_deep none i nested =
      let l = nested_within ss MAX_DEPTH i nested in
      true≢false (sym (set_flag (slice_get deep i) ((shapes.depths i l).1 nested)) ∙ (no_flag tails cyclic deep ss none i l).1)

  pub depth : structures_faults cyclic deep tails 0 ss ≡ [] → (n i : ℕ) → IsNested ss n i → n ≤ MAX_DEPTH
  depth none n i nested =
      elim (cases_lt MAX_DEPTH n) [
        | inl above ↦
            let more : ℕ = n - suc MAX_DEPTH in
            let same : n ≡ more + suc MAX_DEPTH = omega (arith, above) in
            absurd (not_deep none i (nested_least ss more (suc MAX_DEPTH) i (subst (λ k. IsNested ss k i) same nested)))
        | inr below ↦ below
      ]

  -- ---- tails

  tail_flag : (i : ℕ) → IsTail ss i → has_flag tails i ≡ true
  tail_flag i tail = set_flag (slice_get tails i) ((shapes.tail_types i (tail_within ss i tail)).1 tail)

  may_stand : (in_union single skipped : Bool) → not (in_union && single && not skipped) ≡ false → (in_union ≡ true) × (single ≡ true) × (skipped ≡ false)
  may_stand true true false h = (refl, refl, refl)
  may_stand true true true h = absurd (true≢false h)
  may_stand true false skipped h = absurd (true≢false h)
  may_stand false single skipped h = absurd (true≢false h)

  pub keeps_tail : (in_union : Bool) (options : List RawOption) (t : DeclaredType) → is_misused_tail tails in_union options t ≡ false
      → (id : ℕ) → held_type t ≡ Some id → IsTail ss id → (in_union ≡ true) × (is_nil t.bounds ≡ true) × (has_skip options ≡ false)
  keeps_tail in_union options t h id held tail =
      let at : (has_flag tails id && not (in_union && is_nil t.bounds && not (has_skip options))) ≡ false =
      sym (ap (λ o. option_map_or (λ i. has_flag tails i && not (in_union && is_nil t.bounds && not (has_skip options))) o false) held) ∙ h in
      elim (and_cases (has_flag tails id) (not (in_union && is_nil t.bounds && not (has_skip options))) at) [
        | inl off ↦ absurd (true≢false (sym (tail_flag id tail) ∙ off))
        | inr may ↦ may_stand in_union (is_nil t.bounds) (has_skip options) may
      ]
