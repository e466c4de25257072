-- The faults of the fields of a structure, one field after another.
use Rattle.std.proofs.Common.{◌≡◌, ◌∙◌, ℕ, ◌+◌, ◌-◌, ◌<◌, ◌≤◌, Bool, List, [], ◌∷◌, ◌++◌, length, get_or, take, drop, Option, refl, sym, ap, arith}
use Rattle.std.specs.Prelude.{◌==◌}
use Rattle.std.proofs.lemmas.Bool.Decides.{nat_tests}
use Rattle.std.proofs.lemmas.List.{take_more, drop_more, drop_all, length-drop}
use Rattle.gt_types.specs.declared.faults.Fault.{Fault}
use Rattle.gt_drafts.specs.declared.draft.Draft.{Draft}
use Rattle.gt_drafts.specs.declared.draft.DraftField.{DraftField}
use Rattle.gt_drafts.specs.declared.draft.DraftStructure.{DraftStructure}
use Rattle.gt_drafts.specs.FirstFaults.{first_from}
use Rattle.gt_markers.specs.MarkerFaults.{field_faults, fields_faults, is_empty}
use Rattle.gt_markers.proofs.Firsts.{first_from_both, first_from_nil}

-- ---- the last field

empty_at : {A : Type 0} (xs : List A) (place count : ℕ) → length xs ≡ count - place → place ≤ count → (place == count) ≡ is_empty xs
empty_at [] place count h l = grind (arith, nat_tests)
empty_at (x ∷ xs) place count h l = grind (arith, nat_tests)

-- no item stands after the place that is the length
pub is_end : {A : Type 0} (xs : List A) (place : ℕ) → place ≤ length xs → (place == length xs) ≡ is_empty (drop place xs)
is_end xs place l = empty_at (drop place xs) place (length xs) (length-drop place xs) l

-- ---- the fields from one on

pub taken_more : (i : ℕ) (fields : List DraftField) (f : DraftField) → i < length fields → f ≡ get_or fields i f → take (i + 1) fields ≡ take i fields ++ f ∷ []
taken_more i fields f l is = take_more fields i f l ∙ ap (λ (x : DraftField). take i fields ++ x ∷ []) (sym is)

module _ (draft : Draft) (s : DraftStructure) where
  -- the faults of the fields from one on
  abbrev pub rest_faults : ℕ → List DraftField → List Fault
  rest_faults i fields = fields_faults draft s (take i fields) (drop i fields)

  -- one more field
  pub first_from_field : (e e1 : Option Fault) (i : ℕ) (fields : List DraftField) (f : DraftField) (last : Bool) → i < length fields → f ≡ get_or fields i f
      → last ≡ is_empty (drop (i + 1) fields) → e1 ≡ first_from e (field_faults draft s (take i fields) last f)
      → first_from e1 (rest_faults (i + 1) fields) ≡ first_from e (rest_faults i fields)
  unfolding fields_faults
  first_from_field e e1 i fields f last l is end h =
      let before = take i fields in
      let rest = drop (i + 1) fields in
      let after = before ++ f ∷ [] in
      let item : drop i fields ≡ f ∷ rest = drop_more fields i f l ∙ ap (λ (x : DraftField). x ∷ rest) (sym is) in
      ap (λ (taken : List DraftField). first_from e1 (fields_faults draft s taken rest)) (taken_more i fields f l is)
      ∙ first_from_both e e1 (first_from e1 (fields_faults draft s after rest)) (field_faults draft s before (is_empty rest) f) (fields_faults draft s after rest)
      (h ∙ ap (λ (b : Bool). first_from e (field_faults draft s before b f)) end) refl
      ∙ ap (λ (fs : List DraftField). first_from e (fields_faults draft s before fs)) (sym item)

  -- after the last field
  pub first_from_fields : (e : Option Fault) (i : ℕ) (fields : List DraftField) → length fields ≤ i → e ≡ first_from e (rest_faults i fields)
  unfolding fields_faults
  first_from_fields e i fields l =
      sym (first_from_nil e) ∙ ap (λ (fs : List DraftField). first_from e (fields_faults draft s (take i fields) fs)) (sym (drop_all i fields l))
