-- The first structure that is too deep, and what follows for the first fault.
use Rattle.std.proofs.Common.{◌≡◌, ◌∙◌, ℕ, zero, suc, ◌+◌, ◌<◌, Bool, true, false, List, [], ◌∷◌, ◌++◌, length, Option, Some, None, refl, sym, ap, subst, arith, inl, inr}
use Rattle.std.specs.Prelude.{nat_lt, ◌==◌, ◌&&◌, ◌||◌, ◌⊎◌, slice_get}
use Rattle.std.specs.Option.{option_map_or}
use Rattle.std.proofs.lemmas.Bool.Decides.{nat_tests}
use Rattle.std.proofs.lemmas.Bool.{true≢false}
use Rattle.std.proofs.lemmas.Option.{same_Some, none-some, slice_get_within}
use Rattle.gt_drafts.specs.declared.draft.DraftStructure.{DraftStructure}
use Rattle.gt_shapes.specs.Cycles.{comes_before, FirstSoFar, IsPreceded}
use Rattle.gt_drafts.specs.Shapes.{has_flag}

-- ---- the order of tags

not_itself : (f a : ℕ) → (nat_lt f f || (f == f && nat_lt a a)) ≡ false
not_itself f a = grind (arith, nat_tests)

not_before : (f a g b h c : ℕ) → (nat_lt g h || (g == h && nat_lt b c)) ≡ true → (nat_lt f h || (f == h && nat_lt a c)) ≡ false → (nat_lt f g || (f == g && nat_lt a b)) ≡ false
not_before f a g b h c x y = grind (arith, nat_tests)

-- ---- the first so far

-- the one of two that stands last in a list, or one before it
pub last_or : (j n : ℕ) → j < n + 1 → (j < n) ⊎ (j ≡ n)
last_or j n l = elim (less_or j n) [ inl x ↦ inl x | inr x ↦ inr (omega (arith, x, l)) ]
  where
    less_or : (j n : ℕ) → (j < n) ⊎ (n < j + 1)
    less_or j n = grind arith

module _ (structures : List DraftStructure) (deep : List Bool) where
  same_at : (i j : ℕ) (s t : DraftStructure) → i ≡ j → slice_get structures i ≡ Some s → slice_get structures j ≡ Some t → s ≡ t
  same_at i j s t e h k = same_Some s t (sym h ∙ ap (λ (n : ℕ). slice_get structures n) e ∙ k)

  -- the next structure is not too deep
  pub first_passed : (n : ℕ) (first : Option ℕ) → has_flag deep n ≡ false → FirstSoFar structures deep n first → FirstSoFar structures deep (n + 1) first
  first_passed n None e h = λ j s l is.
      elim (last_or j n l) [ inl x ↦ h j s x is | inr x ↦ absurd (true≢false (sym is.is_deep ∙ ap (λ (m : ℕ). has_flag deep m) x ∙ e)) ]
  first_passed n (Some i) e h =
      record {
        t = h.t;
        is = h.is;
        none_before = λ j s l is.
            elim (last_or j n l) [ inl x ↦ h.none_before j s x is | inr x ↦ absurd (true≢false (sym is.is_deep ∙ ap (λ (m : ℕ). has_flag deep m) x ∙ e)) ];
      }

  -- it does not stand before the first
  pub first_kept : (n i : ℕ) (s : DraftStructure) → slice_get structures n ≡ Some s → ((t : DraftStructure) → slice_get structures i ≡ Some t → comes_before s t ≡ false)
      → FirstSoFar structures deep n (Some i) → FirstSoFar structures deep (n + 1) (Some i)
  first_kept n i s at later h =
      record {
        t = h.t;
        is = h.is;
        none_before = λ j r l is.
            elim (last_or j n l) [
              | inl x ↦ h.none_before j r x is
              | inr x ↦ subst (λ (d : DraftStructure). comes_before d h.t ≡ false) (sym (same_at j n r s x is.there at)) (later h.t h.is.there)
            ];
      }

  -- it is the first
  pub first_begins : (n : ℕ) (s : DraftStructure) → slice_get structures n ≡ Some s → has_flag deep n ≡ true → FirstSoFar structures deep n None
      → FirstSoFar structures deep (n + 1) (Some n)
  first_begins n s at e h =
      record {
        t = s;
        is = record { there = at; is_deep = e };
        none_before = λ j r l is.
            elim (last_or j n l) [
              | inl x ↦ absurd (h j r x is)
              | inr x ↦ subst (λ (d : DraftStructure). comes_before d s ≡ false) (sym (same_at j n r s x is.there at)) (not_itself s.file s.tag.at)
            ];
      }

  -- it stands before the first
  pub first_taken : (n i : ℕ) (s : DraftStructure) → slice_get structures n ≡ Some s → has_flag deep n ≡ true
      → ((t : DraftStructure) → slice_get structures i ≡ Some t → comes_before s t ≡ true) → FirstSoFar structures deep n (Some i) → FirstSoFar structures deep (n + 1) (Some n)
  first_taken n i s at e earlier h =
      record {
        t = s;
        is = record { there = at; is_deep = e };
        none_before = λ j r l is.
            elim (last_or j n l) [
              | inl x ↦ not_before r.file r.tag.at s.file s.tag.at h.t.file h.t.tag.at (earlier h.t h.is.there) (h.none_before j r x is)
              | inr x ↦ subst (λ (d : DraftStructure). comes_before d s ≡ false) (sym (same_at j n r s x is.there at)) (not_itself s.file s.tag.at)
            ];
      }

  pub first_within : (n i : ℕ) → FirstSoFar structures deep n (Some i) → i < length structures
  first_within n i h = slice_get_within structures i h.t h.is.there

pub there : {X : Type 0} (xs : List X) (i : ℕ) → i < length xs → (x : X) × (slice_get xs i ≡ Some x)
there [] i l = absurd (omega (arith, l))
there (x ∷ xs) zero l = (x, refl)
there (x ∷ xs) (suc i) l = there xs i (omega (arith, l))

-- ---- one more place

module _ (structures : List DraftStructure) (deep : List Bool) (n : ℕ) (l : n < length structures) (e : has_flag deep n ≡ true) where
  pub first_with_none : (o : Option ℕ) → o ≡ None → FirstSoFar structures deep n o → FirstSoFar structures deep (n + 1) (Some n)
  first_with_none None h is = let r = there structures n l in first_begins structures deep n r.0 r.1 e is
  first_with_none (Some i) h is = absurd (none-some i (sym h))

  pub first_with_later : (o : Option ℕ) (i : ℕ) (b : Bool) → o ≡ Some i → ((s t : DraftStructure) → slice_get structures n ≡ Some s → slice_get structures i ≡ Some t → b ≡ comes_before s t)
      → b ≡ true → FirstSoFar structures deep n o → FirstSoFar structures deep (n + 1) (Some n)
  first_with_later o i b h same earlier is =
      let r = there structures n l in
      first_taken structures deep n i r.0 r.1 e (λ t at. sym (same r.0 t r.1 at) ∙ earlier) (subst (λ (x : Option ℕ). FirstSoFar structures deep n x) h is)

  pub first_with_earlier : (o : Option ℕ) (i : ℕ) (b : Bool) → o ≡ Some i → ((s t : DraftStructure) → slice_get structures n ≡ Some s → slice_get structures i ≡ Some t → b ≡ comes_before s t)
      → b ≡ false → FirstSoFar structures deep n o → FirstSoFar structures deep (n + 1) (Some i)
  first_with_earlier o i b h same later is =
      let r = there structures n l in
      first_kept structures deep n i r.0 r.1 (λ t at. sym (same r.0 t r.1 at) ∙ later) (subst (λ (x : Option ℕ). FirstSoFar structures deep n x) h is)

pub some_within : (structures : List DraftStructure) (deep : List Bool) (n : ℕ) (o : Option ℕ) (i : ℕ) → o ≡ Some i → FirstSoFar structures deep n o → i < length structures
some_within structures deep n o i h is = first_within structures deep n i (subst (λ (x : Option ℕ). FirstSoFar structures deep n x) h is)

-- ---- a structure that contains itself

pub flag_true : (o : Option Bool) → o ≡ Some true → option_map_or (λ flag. flag) o false ≡ true
flag_true o h = ap (λ (x : Option Bool). option_map_or (λ flag. flag) x false) h

module _ (structures : List DraftStructure) (deep : List Bool) (i : ℕ) (l : i < length structures) where
  -- it is too deep, so there is a first one
  pub deep_is_first : (o : Option ℕ) → o ≡ None → FirstSoFar structures deep (length structures) o → slice_get deep i ≡ Some true → ⊥
  deep_is_first None h first is = let r = there structures i l in first i r.0 l (record { there = r.1; is_deep = flag_true (slice_get deep i) is })
  deep_is_first (Some j) h first is = none-some j (sym h)

  preceded_by : (j : ℕ) (b : Bool) → FirstSoFar structures deep (length structures) (Some j)
      → ((s t : DraftStructure) → slice_get structures j ≡ Some s → slice_get structures i ≡ Some t → b ≡ comes_before s t) → b ≡ true → IsPreceded structures deep i
  preceded_by j b first same earlier =
      let r = there structures i l in
      record { j = j; s = first.t; t = r.0; is = first.is; there = r.1; before = sym (same first.t r.0 first.is.there r.1) ∙ earlier }

  -- another one stands before it
  pub is_preceded : (o : Option ℕ) (j : ℕ) (b : Bool) → o ≡ Some j → FirstSoFar structures deep (length structures) o
      → ((s t : DraftStructure) → slice_get structures j ≡ Some s → slice_get structures i ≡ Some t → b ≡ comes_before s t) → b ≡ true → IsPreceded structures deep i
  is_preceded o j b h first same earlier = preceded_by j b (subst (λ (x : Option ℕ). FirstSoFar structures deep (length structures) x) h first) same earlier

-- ---- flags, one after another

pub get_before : (flags : List Bool) (b : Bool) (i : ℕ) → i < length flags → slice_get (flags ++ b ∷ []) i ≡ slice_get flags i
get_before [] b i l = absurd (omega (arith, l))
get_before (x ∷ flags) b zero l = refl
get_before (x ∷ flags) b (suc i) l = get_before flags b i (omega (arith, l))

pub get_last : (flags : List Bool) (b : Bool) → slice_get (flags ++ b ∷ []) (length flags) ≡ Some b
get_last [] b = refl
get_last (x ∷ flags) b = get_last flags b

-- what is told of each of so many places
abbrev AreTold : (Cyclic Preceded : ℕ → Type 0) → List Bool → ℕ → Type 0
AreTold Cyclic Preceded flags n =
    ((i : ℕ) → i < n → slice_get flags i ≡ Some true → Cyclic i) × ((i : ℕ) → i < n → Cyclic i → (slice_get flags i ≡ Some true) ⊎ Preceded i)

pub told_more : (Cyclic Preceded : ℕ → Type 0) (flags : List Bool) (n : ℕ) (b : Bool) → length flags ≡ n → AreTold Cyclic Preceded flags n → (b ≡ true → Cyclic n) → (Cyclic n → (b ≡ true) ⊎ Preceded n)
    → AreTold Cyclic Preceded (flags ++ b ∷ []) (n + 1)
told_more Cyclic Preceded flags n b count h only known = (
  λ i l is.
      elim (last_or i n l) [
        | inl x ↦ h.0 i x (sym (get_before flags b i (omega (arith, x, count))) ∙ is)
        | inr x ↦ subst Cyclic (sym x) (only (same_Some b true (sym (at_last x) ∙ is)))
      ],
  λ i l is.
      elim (last_or i n l) [
        | inl x ↦ elim (h.1 i x is) [ inl told ↦ inl (get_before flags b i (omega (arith, x, count)) ∙ told) | inr first ↦ inr first ]
        | inr x ↦ elim (known (subst Cyclic x is)) [ inl told ↦ inl (at_last x ∙ ap (λ (y : Bool). Some y) told) | inr first ↦ inr (subst Preceded (sym x) first) ]
      ],
)
  where
    at_last : {i : ℕ} → i ≡ n → slice_get (flags ++ b ∷ []) i ≡ Some b
    at_last {i} x = ap (λ (m : ℕ). slice_get (flags ++ b ∷ []) m) (x ∙ sym count) ∙ get_last flags b
