-- The structures of a program that a draft without faults declares.
use Rattle.std.proofs.Common.{◌≡◌, ◌∙◌, ℕ, suc, Bool, true, false, List, [], length, map, Option, Some, None, refl, sym, ap, subst, arith}
use Rattle.std.specs.Prelude.{All, AllPairs, IfSome, codes, slice_get, if◌then◌else◌}
use Rattle.std.proofs.lemmas.List.{length-map}
use Rattle.gt_types.specs.declared.expressions.Expr.{Expr}
use Rattle.gt_types.specs.declared.faults.Fault.{Fault}
use Rattle.gt_types.specs.declared.limits.TheConstants.{MAX_DEPTH}
use Rattle.gt_types.specs.declared.types.TypeId.{TypeId}
use Rattle.gt_types.specs.declared.program.Active.TheVariants.{Always}
use Rattle.gt_types.specs.declared.program.Field.{Field}
use Rattle.gt_types.specs.declared.program.Structure.{Structure}
use Rattle.gt_types.specs.declared.program.Program.{Program}
use Rattle.gt_types.specs.Names.{IsName}
use Rattle.gt_types.specs.Shapes.{is_field_type, is_unscanned}
use Rattle.gt_types.specs.Contains.{HasStructure}
use Rattle.gt_types.specs.Paths.{IsInner, IsOption, LeadsToNumber}
use Rattle.gt_types.specs.Settled.{IsField, IsStruct, IsUnion, IsOfItsKind, IsStructure}
use Rattle.gt_types.specs.Tails.{only_last_is_tail, no_tails}
use Rattle.gt_types.specs.Unions.{AreApart, IsMember}
use Rattle.gt_layout.specs.declared.planes.Plane.{Plane}
use Rattle.gt_drafts.specs.declared.draft.Draft.{Draft}
use Rattle.gt_drafts.specs.declared.draft.DraftField.{DraftField}
use Rattle.gt_drafts.specs.declared.draft.DraftStructure.{DraftStructure}
use Rattle.gt_drafts.specs.Options.{has_skip}
use Rattle.gt_markers.specs.Actives.{active_of}
use Rattle.gt_markers.specs.Expressions.{constants}
use Rattle.gt_markers.specs.MarkerFaults.{draft_faults}
use Rattle.gt_markers.specs.Sites.{at_structure}
use Rattle.gt_markers.specs.Sound.{IsSound}
use Rattle.gt_markers.specs.Typing.{expression_named, opaque_type, own_desc}
use Rattle.gt_declare.specs.Programs.{field_of, field_type, program_by}
use Rattle.gt_rules.specs.Faults.{HasProgramFault}
use Rattle.gt_rules.specs.Inner.{IsDeclaredInner}
use Rattle.gt_rules.proofs.InnerLemmas.{Agree}
use Rattle.gt_settled.proofs.Chains.{chains_lead, kinds_differ}
use Rattle.gt_settled.proofs.Drafts.{FieldsFine, fields_fine, fine_at, structure_fields, structure_marker}
use Rattle.gt_settled.proofs.Fields as field
use Rattle.gt_settled.proofs.Inner.{same_inner}
use Rattle.gt_settled.proofs.Inside.{distinct, field_sound, shallow, structure_sound}
use Rattle.gt_settled.proofs.Lists.{all_places, pairs_map}
use Rattle.gt_settled.proofs.Made.{IsMade, field_drafted, structure_drafted}
use Rattle.gt_settled.proofs.Markers.{marker_pairs}
use Rattle.gt_settled.proofs.Members.{members_apart, never_unscanned, not_always}
use Rattle.gt_settled.proofs.Stable.{Stable}
use Rattle.gt_settled.proofs.Tails.{keeps, last_only, none_tail}
use Rattle.gt_settled.proofs.Ways.{number_stable, own_pointer_stable}

-- bytes that are passed over have their shape
abbrev pub BytesGood : Draft → List Plane → Type 0
BytesGood draft planes =
    (place : ℕ) (ds : DraftStructure) (k : ℕ) (df : DraftField) → slice_get draft.structures place ≡ Some ds → slice_get ds.fields k ≡ Some df → has_skip df.options ≡ true
    → is_field_type (opaque_type planes df.ty) ≡ true

module _ (draft : Draft) (planes : List Plane) (program : Program) (is : program ≡ program_by draft planes) (sound : IsSound draft) (none : draft_faults draft ≡ [])
    (faultless : (f : Fault) → ¬ HasProgramFault draft program f) where
  -- the structures that are declared inner are those of the program
  pub agree : Agree (IsDeclaredInner draft) (IsInner program)
  agree = same_inner draft planes program is sound none

  pub number : (node : TypeId) (steps : List (List ℕ)) → Stable (LeadsToNumber program node steps)
  number = number_stable program (suc MAX_DEPTH) (shallow draft planes program is sound) (distinct draft planes program is sound)

  pub fines : (place : ℕ) (ds : DraftStructure) → slice_get draft.structures place ≡ Some ds → FieldsFine draft ds ds.fields
  fines place ds e = fields_fine draft ds (structure_fields draft none place ds e)

  module _ (bytes : BytesGood draft planes) (id : TypeId) (ds : DraftStructure) (s : Structure) (made : IsMade draft planes id.0 ds s) (there : HasStructure program id s) where
    union_same : s.is_union ≡ ds.is_union
    union_same = ap (λ (t : Structure). t.is_union) made.same

    fields_same : s.fields ≡ map (field_of draft planes ds.is_union) ds.fields
    fields_same = ap (λ (t : Structure). t.fields) made.same

    desc_same : s.desc ≡ own_desc draft ds
    desc_same = ap (λ (t : Structure). t.desc) made.same

    field_good : (k : ℕ) (df : DraftField) (f : Field) → slice_get ds.fields k ≡ Some df → slice_get s.fields k ≡ Some f → f ≡ field_of draft planes ds.is_union df → IsField program id s f
    field_good k df f at have same =
        let one = field_sound draft planes program is sound id.0 ds k df made.drafted at in
        let fine = fine_at draft ds ds.fields k df (fines id.0 ds made.drafted) at in
        let here : slice_get s.fields k ≡ Some (field_of draft planes ds.is_union df) = have ∙ ap (λ (g : Field). Some g) same in
        let good : IsField program id s (field_of draft planes ds.is_union df) = record {
          name = one.name;
          shape = field.shape draft planes program is agree faultless number id ds s k df fine.0 made.drafted there at here one fine.1 (bytes id.0 ds k df made.drafted at);
          names = field.names draft planes program is agree faultless number id ds s k df fine.0 made.drafted there at here one fine.1;
          count = field.count draft planes program is agree faultless number id ds s k df fine.0 made.drafted there at here one fine.1;
          tails = λ node held tail.
              let kept = keeps draft planes program is sound fines id.0 ds k df made.drafted at node held tail in
              (union_same ∙ kept.0, kept.1);
        } in
        subst (λ (g : Field). IsField program id s g) (sym same) good

    fields_good : All (IsField program id s) s.fields
    fields_good = all_places (IsField program id s) s.fields (λ k f have.
        let from = field_drafted draft planes id.0 ds s made k f have in field_good k from.0 f from.1 have from.2)

    -- a field as the draft has it
    drafted_at : (k : ℕ) (f : Field) → slice_get s.fields k ≡ Some f → (df : DraftField) × (slice_get ds.fields k ≡ Some df) × (f ≡ field_of draft planes ds.is_union df)
    drafted_at k f have = field_drafted draft planes id.0 ds s made k f have

    as_struct : ds.is_union ≡ false → IsStruct s
    as_struct kind = record {
      no_desc = desc_same ∙ ap (λ (b : Bool). if b then expression_named (constants draft) (codes "desc") ds.options else None) kind;
      active = all_places (λ f. f.active ≡ Always) s.fields (λ k f have.
          let from = drafted_at k f have in
          ap (λ (g : Field). g.active) from.2 ∙ ap (λ (b : Bool). active_of draft b from.0.options) kind);
      last_tail = ap only_last_is_tail fields_same ∙ last_only draft planes ds ds.fields (fines id.0 ds made.drafted) (λ k f e. field_sound draft planes program is sound id.0 ds k f made.drafted e);
    }

    member : ds.is_union ≡ true → (k : ℕ) (f : Field) → slice_get s.fields k ≡ Some f → IsMember f
    member kind k f have =
        let from = drafted_at k f have in
        let active : f.active ≡ active_of draft true from.0.options = ap (λ (g : Field). g.active) from.2 ∙ ap (λ (b : Bool). active_of draft b from.0.options) kind in
        let one = field_sound draft planes program is sound id.0 ds k from.0 made.drafted from.1 in
        let fine = fine_at draft ds ds.fields k from.0 (fines id.0 ds made.drafted) from.1 in
        let here : slice_get s.fields k ≡ Some (field_of draft planes ds.is_union from.0) = have ∙ ap (λ (g : Field). Some g) from.2 in (
          λ always. not_always draft from.0.options (sym active ∙ always),
          λ never. ap (λ (g : Field). is_unscanned g.ty) from.2 ∙ never_unscanned draft planes ds fine.0 from.0 (field_type draft planes from.0) kind fine.1
              (field.view draft planes program is agree faultless number id ds s k from.0 fine.0 made.drafted there from.1 here one fine.1) (sym active ∙ never),
        )

    as_union : ds.is_union ≡ true → IsUnion program id s
    as_union kind = record {
      desc = own_by s.desc refl;
      members = record {
        each = all_places IsMember s.fields (λ k f have. member kind k f have);
        apart = subst (λ (fs : List Field). AllPairs (λ (f g : Field). AreApart f.active g.active) fs) (sym fields_same)
            (pairs_map (λ (f g : Field). AreApart f.active g.active) (field_of draft planes ds.is_union) ds.fields
            (members_apart draft ds kind (fines id.0 ds made.drafted) (structure_fields draft none id.0 ds made.drafted)));
      };
      tails = ap no_tails fields_same ∙ none_tail draft planes ds kind ds.fields (fines id.0 ds made.drafted) (λ k f e. field_sound draft planes program is sound id.0 ds k f made.drafted e);
    }
      where
        own_by : (d : Option Expr) → s.desc ≡ d → IfSome d (IsOption program id)
        own_by None e = tt
        own_by (Some x) e = field.own_good draft program agree faultless number id ds x made.drafted kind (sym desc_same ∙ e)

    of_its_kind : (b : Bool) → ds.is_union ≡ b → IsOfItsKind program id s b
    of_its_kind true kind = as_union kind
    of_its_kind false kind = as_struct kind

    made_good : IsStructure program id s
    made_good =
        let own = structure_sound draft planes program is sound id.0 ds made.drafted in
        let long : length s.fields ≡ length ds.fields = ap (λ (fs : List Field). length fs) fields_same ∙ length-map ds.fields (field_of draft planes ds.is_union) in
        let some = own.some in
        let few = own.few in
        record {
          name = subst (λ (t : Structure). IsName t.name) (sym made.same) own.name;
          some_fields = omega (arith, long, some);
          few_fields = omega (arith, long, few);
          distinct = distinct draft planes program is sound id s there;
          fields = fields_good;
          sort = subst (λ (b : Bool). IsOfItsKind program id s b) (sym union_same) (of_its_kind ds.is_union refl);
          chains = chains_lead draft planes program is faultless (own_pointer_stable program (suc MAX_DEPTH) (shallow draft planes program is sound)) id ds s made;
          kinds = kinds_differ draft planes program is id ds s made (marker_pairs draft (at_structure ds.is_union) ds.options ds.file (structure_marker draft none id.0 ds made.drafted));
        }

  pub structure_good : BytesGood draft planes → (id : TypeId) (s : Structure) → HasStructure program id s → IsStructure program id s
  structure_good bytes id s there = let from = structure_drafted draft planes program is id.0 s there in made_good bytes id from.0 s from.1 there
