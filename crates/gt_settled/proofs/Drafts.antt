-- What holds of the structures, fields and roots of a draft without faults.
use Rattle.std.proofs.Common.{◌≡◌, ℕ, zero, suc, Bool, false, not, ◌&&◌, List, [], ◌∷◌, ◌++◌, Some, subst}
use Rattle.std.specs.Prelude.{slice_get, is_none}
use Rattle.std.specs.List.{flat_map}
use Rattle.std.proofs.lemmas.Option.{none-some, same_Some}
use Rattle.gt_drafts.specs.declared.draft.Draft.{Draft}
use Rattle.gt_drafts.specs.declared.draft.DraftField.{DraftField}
use Rattle.gt_drafts.specs.declared.draft.DraftRoot.{DraftRoot}
use Rattle.gt_drafts.specs.declared.draft.DraftStructure.{DraftStructure}
use Rattle.gt_drafts.specs.Options.{has_skip}
use Rattle.gt_markers.specs.Expressions.{constants, constants_and_roots}
use Rattle.gt_markers.specs.MarkerFaults.{is_empty, is_unmarked, is_untyped, field_faults, fields_faults, structure_faults, root_faults, cache_faults, draft_faults}
use Rattle.gt_markers.specs.Sites.{at_field, at_root, at_structure, marker_faults}
use Rattle.gt_markers.specs.Typing.{says, walked_type}
use Rattle.gt_settled.proofs.Lists.{nil_front, nil_back, no_fault, each_nil, at_place}

pub record FieldFine (draft : Draft) (s : DraftStructure) (last : Bool) (f : DraftField) : Type 0 where
  pub marker : marker_faults draft (at_field s.is_union last f.ty) s.file f.options ≡ []
  pub typed : is_untyped (constants draft) draft f.options f ≡ false
  pub marked : (s.is_union && is_unmarked f.options) ≡ false

-- each of some fields, the last of which is the last of the structure
abbrev pub FieldsFine : Draft → DraftStructure → List DraftField → Type 0
FieldsFine draft s [] = Unit {0}
FieldsFine draft s (f ∷ fs) = FieldFine draft s (is_empty fs) f × FieldsFine draft s fs

module _ (draft : Draft) (s : DraftStructure) where
  field_fine : (before : List DraftField) (last : Bool) (f : DraftField) → field_faults draft s before last f ≡ [] → FieldFine draft s last f
  field_fine before last f e =
      let three = nil_front _ _ e in
      let two = nil_front _ _ three in
      record {
        marker = nil_front _ _ two;
        typed = no_fault _ _ _ _ (nil_back _ _ two);
        marked = no_fault _ _ _ _ (nil_back _ _ three);
      }

  fields_by : (before fs : List DraftField) → fields_faults draft s before fs ≡ [] → FieldsFine draft s fs
  unfolding fields_faults
  fields_by before [] e = tt
  fields_by before (f ∷ fs) e = (
    field_fine before (is_empty fs) f (nil_front _ (fields_faults draft s (before ++ f ∷ []) fs) e),
    fields_by (before ++ f ∷ []) fs (nil_back (field_faults draft s before (is_empty fs) f) _ e),
  )

  pub fields_fine : fields_faults draft s [] s.fields ≡ [] → FieldsFine draft s s.fields
  fields_fine e = fields_by [] s.fields e

  pub fine_at : (fs : List DraftField) (k : ℕ) (f : DraftField) → FieldsFine draft s fs → slice_get fs k ≡ Some f → (last : Bool) × FieldFine draft s last f
  fine_at [] k f all e = absurd (none-some f e)
  fine_at (g ∷ fs) zero f all e = (is_empty fs, subst (λ (h : DraftField). FieldFine draft s (is_empty fs) h) (same_Some g f e) all.0)
  fine_at (g ∷ fs) (suc k) f all e = fine_at fs k f all.1 e

-- ---- the draft

module _ (draft : Draft) (none : draft_faults draft ≡ []) where
  of_structures : flat_map (structure_faults draft) draft.structures ≡ []
  of_structures = nil_front _ (flat_map (root_faults draft) draft.roots) (nil_front _ (flat_map (cache_faults draft) draft.caches) none)

  of_roots : flat_map (root_faults draft) draft.roots ≡ []
  of_roots = nil_back (flat_map (structure_faults draft) draft.structures) _ (nil_front _ (flat_map (cache_faults draft) draft.caches) none)

  structure_at : (place : ℕ) (s : DraftStructure) → slice_get draft.structures place ≡ Some s → structure_faults draft s ≡ []
  structure_at place s e = at_place (λ s. structure_faults draft s ≡ []) draft.structures place s (each_nil (structure_faults draft) draft.structures of_structures) e

  pub structure_marker : (place : ℕ) (s : DraftStructure) → slice_get draft.structures place ≡ Some s → marker_faults draft (at_structure s.is_union) s.file s.options ≡ []
  structure_marker place s e = nil_front _ (fields_faults draft s [] s.fields) (structure_at place s e)

  pub structure_fields : (place : ℕ) (s : DraftStructure) → slice_get draft.structures place ≡ Some s → fields_faults draft s [] s.fields ≡ []
  structure_fields place s e = nil_back (marker_faults draft (at_structure s.is_union) s.file s.options) _ (structure_at place s e)

  root_at : (place : ℕ) (r : DraftRoot) → slice_get draft.roots place ≡ Some r → root_faults draft r ≡ []
  root_at place r e = at_place (λ r. root_faults draft r ≡ []) draft.roots place r (each_nil (root_faults draft) draft.roots of_roots) e

  pub root_marker : (place : ℕ) (r : DraftRoot) → slice_get draft.roots place ≡ Some r → marker_faults draft (at_root r.ty) r.file r.options ≡ []
  root_marker place r e = nil_front _ _ (root_at place r e)

  pub root_typed : (place : ℕ) (r : DraftRoot) → slice_get draft.roots place ≡ Some r
      → (not (has_skip r.options) && is_none (walked_type draft (says (constants_and_roots draft) r.options) r.ty)) ≡ false
  root_typed place r e = no_fault _ _ _ _ (nil_back (marker_faults draft (at_root r.ty) r.file r.options) _ (root_at place r e))
