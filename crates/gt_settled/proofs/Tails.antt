-- Structures that end in an array with a length, in the program and in the draft.
use Rattle.std.proofs.Common.{◌≡◌, ◌∙◌, ◌⊎◌, inl, inr, ℕ, suc, Bool, true, false, not, ◌&&◌, ◌||◌, List, [], ◌∷◌, map, Option, Some, None, refl, sym, ap}
use Rattle.std.specs.Prelude.{Contains, codes, slice_get, is_some, if◌then◌else◌}
use Rattle.std.proofs.lemmas.Option.{none-some}
use Rattle.gt_types.specs.declared.expressions.Expr.{Expr}
use Rattle.gt_types.specs.declared.types.TypeId.{TypeId}
use Rattle.gt_types.specs.declared.types.Ty.{Ty}
use Rattle.gt_types.specs.declared.types.Ty.TheVariants as ty
use Rattle.gt_types.specs.declared.program.Field.{Field}
use Rattle.gt_types.specs.declared.program.Structure.{Structure}
use Rattle.gt_types.specs.declared.program.Program.{Program}
use Rattle.gt_types.specs.Shapes.{is_tail, is_structure}
use Rattle.gt_types.specs.Contains.{HasStructure, held_by, itself}
use Rattle.gt_types.specs.Tails.{IsTailType, ends, has_member, elements_at, elements_of, tail_of, only_last_is_tail, no_tails}
use Rattle.gt_layout.specs.declared.planes.Plane.{Plane}
use Rattle.gt_drafts.specs.declared.draft.Draft.{Draft}
use Rattle.gt_drafts.specs.declared.draft.DraftField.{DraftField}
use Rattle.gt_drafts.specs.declared.draft.DraftStructure.{DraftStructure}
use Rattle.gt_drafts.specs.declared.types.DeclaredType.{DeclaredType}
use Rattle.gt_drafts.specs.Options.{has_option, has_skip, has_length}
use Rattle.gt_drafts.specs.Shapes.{IsTail, struct_tail, union_tail, ends_in_tail, is_tail_array, is_nil, member_structure, held_type}
use Rattle.gt_markers.specs.declared.kinds.OptionKind.TheVariants.{Length}
use Rattle.gt_markers.specs.Expressions.{constants}
use Rattle.gt_markers.specs.MarkerFaults.{is_empty, is_untyped}
use Rattle.gt_markers.specs.Sites.{at_field, is_counted, is_last_array, points_to_many}
use Rattle.gt_markers.specs.Sound.{IsSound, IsSoundField}
use Rattle.gt_markers.specs.Typing.{says}
use Rattle.gt_declare.specs.Programs.{field_of, field_type, program_by}
use Rattle.gt_settled.proofs.Beginnings.{held_node}
use Rattle.gt_settled.proofs.Drafts.{FieldFine, FieldsFine, fine_at}
use Rattle.gt_settled.proofs.Fits.{held_whole, tail_options}
use Rattle.gt_settled.proofs.Inside.{field_sound, held_made}
use Rattle.gt_settled.proofs.Lists.{in_filtered, in_list, nil_of, place_of}
use Rattle.gt_settled.proofs.Made.{field_drafted, structure_drafted}
use Rattle.gt_settled.proofs.Markers.{marker_fine, stands_if}
use Rattle.gt_settled.proofs.Shape.{and_first, and_second, and_true, is_said, not_true}
use Rattle.gt_settled.proofs.Types.{OfField, Walked, array, bits, field_view, opaque, single, skipped_bits, skipped_number, tail, walked}

-- ---- one field

not_nil : {X : Type 0} (xs : List X) → ¬ (xs ≡ []) → not (is_nil xs) ≡ true
not_nil [] some = absurd (some refl)
not_nil (x ∷ xs) some = refl

module _ (draft : Draft) (planes : List Plane) (in_union : Bool) (f : DraftField) (sound : IsSoundField draft in_union f) where
  -- an array with a length is one by its options
  pub tail_by : (type : Ty) → OfField draft planes (constants draft) f.options f.ty type → (is_tail type ≡ true) ⊎ ((x : Ty) × (elements_of type ≡ Some x)) → is_tail_array f ≡ true
  tail_by type (walked skip w) is =
      let o = tail_options draft (says (constants draft) f.options) f.ty w is in
      let length : has_option (codes "length") f.options ≡ true = sym (is_said (constants draft) (codes "length") f.options) ∙ ap is_some o.2.1 in
      and_true (has_length f.options && not (is_nil f.ty.bounds)) (not f.ty.is_function)
      (and_true (has_length f.options) (not (is_nil f.ty.bounds)) (and_true (has_option (codes "length") f.options) (not (has_skip f.options)) length (ap not skip)) (not_nil f.ty.bounds o.1)) (ap not o.0)
  tail_by type (skipped_number {s = s} skip) (inl is) = absurd (cc)
  tail_by type (skipped_number {s = s} skip) (inr (x, is)) = absurd (none-some x (sym (ap elements_at (ty.outs-Num s)) ∙ is))
  tail_by type (skipped_bits {s = s} {n = n} skip some most) (inl is) = absurd (cc)
  tail_by type (skipped_bits {s = s} {n = n} skip some most) (inr (x, is)) = absurd (none-some x (sym (ap elements_at (ty.outs-Bits s n)) ∙ is))
  tail_by type (opaque skip) (inl is) = absurd (cc)
  tail_by type (opaque skip) (inr (x, is)) = absurd (none-some x (sym (ap elements_at (ty.outs-Opaque _ _)) ∙ is))

  -- a structure by value, in no array, is one
  whole_by : (type : Ty) → OfField draft planes (constants draft) f.options f.ty type → is_nil f.ty.bounds ≡ true → has_skip f.options ≡ false → (id : TypeId) → held_by type ≡ Some id → is_structure type ≡ true
  whole_by type (walked skip w) nil no_skip id held = held_whole draft (says (constants draft) f.options) f.ty id w (nil_of f.ty.bounds nil) held
  whole_by type (skipped_number skip) nil no_skip id held = absurd (cc)
  whole_by type (skipped_bits skip some most) nil no_skip id held = absurd (cc)
  whole_by type (opaque skip) nil no_skip id held = absurd (cc)

  pub view : is_untyped (constants draft) draft f.options f ≡ false → OfField draft planes (constants draft) f.options f.ty (field_type draft planes f)
  view typed = field_view draft planes (constants draft) f.options f.ty sound.type.bits typed

  -- a member that is a structure
  member_by : (type : Ty) → OfField draft planes (constants draft) f.options f.ty type → (id : TypeId) → itself type ≡ Some id → (has_skip f.options ≡ false) × (is_nil f.ty.bounds ≡ true)
  member_by type (walked skip w) id e = (skip, single_by type w id e)
    where
      single_by : (type : Ty) → Walked draft (says (constants draft) f.options) f.ty type → (id : TypeId) → itself type ≡ Some id → is_nil f.ty.bounds ≡ true
      single_by type (bits has some most) id e = absurd (none-some id e)
      single_by type (single g b is) id e = ap is_nil b
      single_by type (array g b none is) id e = absurd (none-some id e)
      single_by type (tail g b l is) id e = absurd (none-some id e)
  member_by type (skipped_number skip) id e = absurd (none-some id e)
  member_by type (skipped_bits skip some most) id e = absurd (none-some id e)
  member_by type (opaque skip) id e = absurd (none-some id e)

  pub member_of : is_untyped (constants draft) draft f.options f ≡ false → (id : TypeId) (desc : Option Expr) → field_type draft planes f ≡ ty.Node id desc → member_structure f ≡ Some id.0
  member_of typed id desc e =
      let m = member_by (field_type draft planes f) (view typed) id (ap itself e) in
      let held = held_made draft planes in_union f id sound (ap held_by e ∙ held_node id desc) in
      ap (λ (b : Bool). if (b || not (is_nil f.ty.bounds)) then None else held_type f.ty) m.0 ∙ ap (λ (b : Bool). if not b then None else held_type f.ty) m.1 ∙ held

-- ---- where an array with a length may stand

last_array : (u last : Bool) (t : DeclaredType) → (u ≡ true) ⊎ (last ≡ false) → is_last_array u last t ≡ false
last_array true last t why = refl
last_array false false t why = refl
last_array false true t (inl e) = absurd (cc)
last_array false true t (inr e) = absurd (cc)

not_counted : (t : DeclaredType) → not (is_nil t.bounds) ≡ true → is_counted t ≡ false
not_counted t some = by (is_nil t.bounds) some
  where
    by : (b : Bool) → not b ≡ true → (b && not t.is_function && points_to_many t.resolved.base t.resolved.stars) ≡ false
    by true e = absurd (cc)
    by false e = refl

or_false : (a b : Bool) → a ≡ false → b ≡ false → (a || b) ≡ false
or_false false false p q = refl
or_false false true p q = q
or_false true b p q = absurd (cc)

module _ (draft : Draft) (planes : List Plane) (ds : DraftStructure) where
  pub not_tail : (last : Bool) (f : DraftField) → IsSoundField draft ds.is_union f → FieldFine draft ds last f → (ds.is_union ≡ true) ⊎ (last ≡ false) → (b : Bool) → is_tail (field_type draft planes f) ≡ b → b ≡ false
  not_tail last f sound fine why false e = refl
  not_tail last f sound fine why true e =
      let array_tail = tail_by draft planes ds.is_union f sound (field_type draft planes f) (view draft planes ds.is_union f sound fine.typed) (inl e) in
      let first = and_first (has_length f.options && not (is_nil f.ty.bounds)) (not f.ty.is_function) array_tail in
      let length = and_first (has_length f.options) (not (is_nil f.ty.bounds)) first in
      let some = and_second (has_length f.options) (not (is_nil f.ty.bounds)) first in
      let has = and_first (has_option (codes "length") f.options) (not (has_skip f.options)) length in
      let no_skip = not_true (has_skip f.options) (and_second (has_option (codes "length") f.options) (not (has_skip f.options)) length) in
      let may = stands_if draft (at_field ds.is_union last f.ty) f.options (codes "length") Length (marker_fine draft (at_field ds.is_union last f.ty) f.options ds.file fine.marker) refl
      (ap (λ (b : Bool). b && true) no_skip) has in
      let never : true ≡ false = sym may ∙ or_false (is_last_array ds.is_union last f.ty) (is_counted f.ty) (last_array ds.is_union last f.ty why) (not_counted f.ty some) in
      absurd (cc)

  pub last_only : (fs : List DraftField) → FieldsFine draft ds fs → ((k : ℕ) (f : DraftField) → slice_get fs k ≡ Some f → IsSoundField draft ds.is_union f)
      → only_last_is_tail (map (field_of draft planes ds.is_union) fs) ≡ true
  last_only [] fine sound = refl
  last_only (f ∷ []) fine sound = refl
  last_only (f ∷ g ∷ fs) fine sound =
      and_true (not (is_tail (field_type draft planes f))) (only_last_is_tail (map (field_of draft planes ds.is_union) (g ∷ fs)))
      (ap not (not_tail false f (sound 0 f refl) fine.0 (inr refl) (is_tail (field_type draft planes f)) refl)) (last_only (g ∷ fs) fine.1 (λ k h e. sound (suc k) h e))

  pub none_tail : ds.is_union ≡ true → (fs : List DraftField) → FieldsFine draft ds fs → ((k : ℕ) (f : DraftField) → slice_get fs k ≡ Some f → IsSoundField draft ds.is_union f)
      → no_tails (map (field_of draft planes ds.is_union) fs) ≡ true
  none_tail union [] fine sound = refl
  none_tail union (f ∷ fs) fine sound =
      and_true (not (is_tail (field_type draft planes f))) (no_tails (map (field_of draft planes ds.is_union) fs))
      (ap not (not_tail (is_empty fs) f (sound 0 f refl) fine.0 (inl union) (is_tail (field_type draft planes f)) refl)) (none_tail union fs fine.1 (λ k h e. sound (suc k) h e))

  ends_one : (f : DraftField) → IsSoundField draft ds.is_union f → FieldFine draft ds true f → (o : Option Ty) → elements_of (field_type draft planes f) ≡ o → is_some o ≡ true → is_tail_array f ≡ true
  ends_one f sound fine None e is = absurd (cc)
  ends_one f sound fine (Some x) e is = tail_by draft planes ds.is_union f sound (field_type draft planes f) (view draft planes ds.is_union f sound fine.typed) (inr (x, e))

  pub ends_drafted : (fs : List DraftField) → FieldsFine draft ds fs → ((k : ℕ) (f : DraftField) → slice_get fs k ≡ Some f → IsSoundField draft ds.is_union f)
      → is_some (tail_of (map (field_of draft planes ds.is_union) fs)) ≡ true → ends_in_tail fs ≡ true
  ends_drafted [] fine sound is = absurd (cc)
  ends_drafted (f ∷ []) fine sound is = ends_one f (sound 0 f refl) fine.0 (elements_of (field_type draft planes f)) refl is
  ends_drafted (f ∷ g ∷ fs) fine sound is = ends_drafted (g ∷ fs) fine.1 (λ k h e. sound (suc k) h e) is

-- ---- tail types

module _ (draft : Draft) (planes : List Plane) (program : Program) (is : program ≡ program_by draft planes) (sound : IsSound draft)
    (fines : (place : ℕ) (ds : DraftStructure) → slice_get draft.structures place ≡ Some ds → FieldsFine draft ds ds.fields) where
  sounds : (place : ℕ) (ds : DraftStructure) → slice_get draft.structures place ≡ Some ds → (k : ℕ) (f : DraftField) → slice_get ds.fields k ≡ Some f → IsSoundField draft ds.is_union f
  sounds place ds e k f at = field_sound draft planes program is sound place ds k f e at

  member_at : (id member : TypeId) (s : Structure) (f : Field) (desc : Option Expr) → HasStructure program id s → s.is_union ≡ true → Contains s.fields f → f.ty ≡ ty.Node member desc
      → IsTail draft.structures member.0 → IsTail draft.structures id.0
  member_at id member s f desc there union inside type ending =
      let from = structure_drafted draft planes program is id.0 s there in
      let at = place_of s.fields f inside in
      let field = field_drafted draft planes id.0 from.0 s from.1 at.0 f at.1 in
      let fine = fine_at draft from.0 from.0.fields at.0 field.0 (fines id.0 from.0 from.1.drafted) field.1 in
      let named = member_of draft planes from.0.is_union field.0 (sounds id.0 from.0 from.1.drafted at.0 field.0 field.1) fine.1.typed member desc (sym (ap (λ (g : Field). g.ty) field.2) ∙ type) in
      union_tail from.0 from.1.drafted (sym (ap (λ (t : Structure). t.is_union) from.1.same) ∙ union)
      (in_filtered member_structure from.0.fields field.0 member.0 (in_list from.0.fields at.0 field.0 field.1) named) ending

  pub tail_drafted : (id : TypeId) → IsTailType program id → IsTail draft.structures id.0
  tail_drafted id (ends {s = s} there kind ending) =
      let from = structure_drafted draft planes program is id.0 s there in
      struct_tail from.0 from.1.drafted (sym (ap (λ (t : Structure). t.is_union) from.1.same) ∙ kind)
      (ends_drafted draft planes from.0 from.0.fields (fines id.0 from.0 from.1.drafted) (sounds id.0 from.0 from.1.drafted)
      (sym (ap (λ (t : Structure). is_some (tail_of t.fields)) from.1.same) ∙ ending))
  tail_drafted id (has_member {member = member} {s = s} {f = f} {desc = desc} there union inside type ending) =
      member_at id member s f desc there union inside type (tail_drafted member ending)

  -- a field keeps tail types where they may stand
  pub keeps : (place : ℕ) (ds : DraftStructure) (k : ℕ) (f : DraftField) → slice_get draft.structures place ≡ Some ds → slice_get ds.fields k ≡ Some f → (id : TypeId)
      → held_by (field_type draft planes f) ≡ Some id → IsTailType program id → (ds.is_union ≡ true) × (is_structure (field_type draft planes f) ≡ true)
  keeps place ds k f e at id held ending =
      let one = sounds place ds e k f at in
      let fine = fine_at draft ds ds.fields k f (fines place ds e) at in
      let kept = one.type.tail id.0 (held_made draft planes ds.is_union f id one held) (tail_drafted id ending) in
      (kept.0, whole_by draft planes ds.is_union f one (field_type draft planes f) (view draft planes ds.is_union f one fine.1.typed) kept.1 kept.2 id held)
