-- The fields of a program that a draft without faults declares.
use Rattle.std.proofs.Common.{◌≡◌, ◌∙◌, inl, inr, ℕ, Bool, true, false, ◌&&◌, List, Option, Some, None, refl, sym, ap, subst}
use Rattle.std.specs.Prelude.{IfSome, codes, slice_get, is_some, if◌then◌else◌}
use Rattle.gt_types.specs.declared.expressions.Expr.{Expr}
use Rattle.gt_types.specs.declared.faults.Fault.{Fault}
use Rattle.gt_types.specs.declared.types.TypeId.{TypeId}
use Rattle.gt_types.specs.declared.types.Ty.{Ty}
use Rattle.gt_types.specs.declared.types.Ty.TheVariants as ty
use Rattle.gt_types.specs.declared.program.Field.{Field}
use Rattle.gt_types.specs.declared.program.Structure.{Structure}
use Rattle.gt_types.specs.declared.program.Program.{Program}
use Rattle.gt_types.specs.Shapes.{count_of, field_type_at, innermost, is_field_type}
use Rattle.gt_types.specs.Contains.{HasStructure, ContainsStructure, held_by, itself}
use Rattle.gt_types.specs.Paths.{IsInner, LeadsToNumber, IsOption, IsOptionBeside, IsFieldDesc, IsFieldDescBeside}
use Rattle.gt_types.specs.Settled.{NamesFit, NamesStanding, NamesSortable, NamesDescribed}
use Rattle.gt_items.specs.declared.items.RawOption.{RawOption}
use Rattle.gt_layout.specs.declared.planes.Plane.{Plane}
use Rattle.gt_drafts.specs.declared.types.BaseType.TheVariants as base
use Rattle.gt_drafts.specs.declared.draft.Draft.{Draft}
use Rattle.gt_drafts.specs.declared.draft.DraftField.{DraftField}
use Rattle.gt_drafts.specs.declared.draft.DraftStructure.{DraftStructure}
use Rattle.gt_drafts.specs.Options.{has_option, has_skip}
use Rattle.gt_markers.specs.declared.TheConstants.{WRONG_PLACE, MISSING_DESC, BAD_PATH}
use Rattle.gt_markers.specs.declared.kinds.OptionKind.TheVariants.{Reorder}
use Rattle.gt_markers.specs.declared.type_options.TypeOptions.{TypeOptions}
use Rattle.gt_markers.specs.Expressions.{constants}
use Rattle.gt_markers.specs.Options.{option_named}
use Rattle.gt_markers.specs.Sites.{at_field, is_passed_over, is_sorted}
use Rattle.gt_markers.specs.Sound.{IsSoundField, NamesStructure}
use Rattle.gt_markers.specs.Typing.{desc_at, expression_named, node, of_elements, opaque_type, own_desc, says}
use Rattle.gt_declare.specs.Programs.{field_of, program_by}
use Rattle.gt_rules.specs.Faults.{HasProgramFault, IsFieldAt, LacksDesc, NamesBareUnion, NamesInner, fault, field_without_desc, field_to_bare_union, field_to_inner, field_length, field_desc, field_reorder, union_desc}
use Rattle.gt_rules.specs.Inner.{IsDeclaredInner}
use Rattle.gt_rules.proofs.InnerLemmas.{Agree, desc_same, option_same}
use Rattle.gt_settled.proofs.Stable.{Stable}
use Rattle.gt_settled.proofs.Drafts.{FieldFine}
use Rattle.gt_settled.proofs.Expressions.{option_stable, field_desc_stable, sortable_stable}
use Rattle.gt_settled.proofs.Fits.{counted, described, inner-bits, inner-num, inner-opaque, of_inner, standing, walked_sortable}
use Rattle.gt_settled.proofs.Good.{described_at, desc_of_field, good_named, present, stands}
use Rattle.gt_settled.proofs.Lists.{in_list}
use Rattle.gt_settled.proofs.Made.{structure_drafted}
use Rattle.gt_settled.proofs.Markers.{has_is, marker_fine, stands_if}
use Rattle.gt_settled.proofs.Shape.{bits_shape, walked_field}
use Rattle.gt_settled.proofs.Types.{OfField, field_view, opaque, skipped_bits, skipped_number, walked}

-- a union's own `desc` is good
pub own_good : (draft : Draft) (program : Program) → Agree (IsDeclaredInner draft) (IsInner program) → ((f : Fault) → ¬ HasProgramFault draft program f) → ((node : TypeId) (steps : List (List ℕ)) → Stable (LeadsToNumber program node steps))
    → (id : TypeId) (ds : DraftStructure) (e : Expr) → slice_get draft.structures id.0 ≡ Some ds → ds.is_union ≡ true → own_desc draft ds ≡ Some e → IsOption program id e
own_good draft program agree faultless number id ds e at union is =
    option_same (IsDeclaredInner draft) (IsInner program) agree program id e
    (good_named (constants draft) (IsOptionBeside (IsDeclaredInner draft) program id) (option_stable program number (IsDeclaredInner draft) id) (codes "desc") ds.options
    (λ o named bad. faultless (fault BAD_PATH ds.file o.name.at) (union_desc at union named bad)) e
    (subst (λ (b : Bool). (if b then expression_named (constants draft) (codes "desc") ds.options else None) ≡ Some e) union is))

module _ (draft : Draft) (planes : List Plane) (program : Program) (is : program ≡ program_by draft planes) (agree : Agree (IsDeclaredInner draft) (IsInner program))
    (faultless : (f : Fault) → ¬ HasProgramFault draft program f) (number : (node : TypeId) (steps : List (List ℕ)) → Stable (LeadsToNumber program node steps)) where
  module _ (id : TypeId) (ds : DraftStructure) (s : Structure) (k : ℕ) (df : DraftField) (last : Bool) (drafted : slice_get draft.structures id.0 ≡ Some ds) (there : HasStructure program id s)
      (at : slice_get ds.fields k ≡ Some df) (made : slice_get s.fields k ≡ Some (field_of draft planes ds.is_union df)) (sound : IsSoundField draft ds.is_union df)
      (fine : FieldFine draft ds last df) where
    abbrev f : Field
    f = field_of draft planes ds.is_union df

    abbrev o : TypeOptions
    o = says (constants draft) df.options

    field_at : IsFieldAt draft program id ds df f
    field_at = record { structure = drafted; s = s; there = there; place = k; drafted = at; made = made }

    pub view : OfField draft planes (constants draft) df.options df.ty f.ty
    view = field_view draft planes (constants draft) df.options df.ty sound.type.bits fine.typed

    not_passed : has_skip df.options ≡ false → is_passed_over (at_field ds.is_union last df.ty) df.options Reorder ≡ false
    not_passed skip = ap (λ (b : Bool). b && true) skip

    reorders : has_skip df.options ≡ false → has_option (codes "reorder") df.options ≡ true → is_sorted df.options df.ty ≡ true
    reorders skip has =
        stands_if draft (at_field ds.is_union last df.ty) df.options (codes "reorder") Reorder
        (marker_fine draft (at_field ds.is_union last df.ty) df.options ds.file fine.marker) refl (not_passed skip) has

    bare : ¬ NamesBareUnion program df.options df.ty
    bare names = faultless (fault MISSING_DESC ds.file df.name.at) (field_to_bare_union field_at names)

    inner : ¬ NamesInner draft df.options df.ty
    inner names = faultless (fault BAD_PATH ds.file df.name.at) (field_to_inner field_at names)

    lacks : ¬ LacksDesc program (innermost f.ty)
    lacks lack = faultless (fault MISSING_DESC ds.file df.name.at) (field_without_desc field_at lack)

    good_length : has_skip df.options ≡ false → (e : Expr) → o.length ≡ Some e → IsOption program id e
    good_length skip e said = option_same (IsDeclaredInner draft) (IsInner program) agree program id e
        (good_named (constants draft) (IsOptionBeside (IsDeclaredInner draft) program id) (option_stable program number (IsDeclaredInner draft) id) (codes "length") df.options
        (λ o named bad. faultless (fault BAD_PATH ds.file o.name.at) (field_length field_at (inl (skip, named)) bad)) e said)

    good_string : has_skip df.options ≡ false → (e : Expr) → o.string_length ≡ Some e → IsOption program id e
    good_string skip e said = option_same (IsDeclaredInner draft) (IsInner program) agree program id e
        (good_named (constants draft) (IsOptionBeside (IsDeclaredInner draft) program id) (option_stable program number (IsDeclaredInner draft) id) (codes "string_length") df.options
        (λ o named bad. faultless (fault BAD_PATH ds.file o.name.at) (field_length field_at (inr (skip, named)) bad)) e said)

    good_desc : has_skip df.options ≡ false → (union : TypeId) → held_by f.ty ≡ Some union → (e : Expr) → o.desc ≡ Some e → IsFieldDesc program id union e
    good_desc skip union held e said = desc_same (IsDeclaredInner draft) (IsInner program) agree program id union e
        (good_named (constants draft) (IsFieldDescBeside (IsDeclaredInner draft) program id union) (field_desc_stable program number (IsDeclaredInner draft) id union) (codes "desc") df.options
        (λ o named bad. faultless (fault BAD_PATH ds.file o.name.at) (field_desc field_at (skip, named) held bad)) e said)

    good_reorder : has_skip df.options ≡ false → (b : Option RawOption) → option_named (codes "reorder") df.options ≡ b → has_option (codes "reorder") df.options ≡ true → NamesSortable program f.ty
    good_reorder skip None named has = let never : true ≡ false = sym has ∙ has_is (codes "reorder") df.options ∙ ap is_some named in absurd (cc)
    good_reorder skip (Some o) named has = sortable_stable program f.ty (λ bad. faultless (fault WRONG_PLACE ds.file o.name.at) (field_reorder field_at (skip, named) bad))

    -- ---- the count

    count_by : {type : Ty} → OfField draft planes (constants draft) df.options df.ty type → IfSome (count_of type) (IsOption program id)
    count_by (walked skip w) = counted draft o df.ty (IsOption program id) (good_length skip) (good_string skip) w
    count_by (skipped_number skip) = tt
    count_by (skipped_bits skip some most) = tt
    count_by (opaque skip) = tt

    pub count : IfSome (count_of f.ty) (IsOption program id)
    count = count_by view

    -- ---- what is named

    standing_by : (type : Ty) → OfField draft planes (constants draft) df.options df.ty type → NamesStanding program (innermost type)
    standing_by type (walked skip w) = of_inner draft o df.ty (NamesStanding program) type w (λ s n. tt)
        (λ elem e function single. standing draft o df.ty program (stands draft planes program is df.options df.ty skip function sound.type.there agree bare inner) single)
        (λ elem e function single. standing draft (of_elements o) df.ty program (stands draft planes program is df.options df.ty skip function sound.type.there agree bare inner) single)
    standing_by type (skipped_number {s = s} skip) = subst (NamesStanding program) (sym (inner-num s)) tt
    standing_by type (skipped_bits {s = s} {n = n} skip some most) = subst (NamesStanding program) (sym (inner-bits s n)) tt
    standing_by type (opaque skip) = subst (NamesStanding program) (sym (inner-opaque _ _)) tt

    sortable_by : (type : Ty) → (has_skip df.options ≡ false → has_option (codes "reorder") df.options ≡ true → NamesSortable program type)
        → OfField draft planes (constants draft) df.options df.ty type → NamesSortable program (innermost type)
    sortable_by type h (walked skip w) = walked_sortable draft o df.ty program type (h skip) w
    sortable_by type h (skipped_number {s = s} skip) = subst (NamesSortable program) (sym (inner-num s)) tt
    sortable_by type h (skipped_bits {s = s} {n = n} skip some most) = subst (NamesSortable program) (sym (inner-bits s n)) tt
    sortable_by type h (opaque skip) = subst (NamesSortable program) (sym (inner-opaque _ _)) tt

    abbrev Good : TypeId → Structure → Expr → Type 0
    Good = λ union u e. IsFieldDesc program id union e

    -- the field holds a structure by value
    contains : (union : TypeId) → held_by f.ty ≡ Some union → ContainsStructure program id union
    contains union held = (s, f, there, in_list s.fields k f made, held)

    own_desc_good : (union : TypeId) (u : Structure) (e : Expr) → held_by f.ty ≡ Some union → HasStructure program union u → u.is_union ≡ true → u.desc ≡ Some e → IsFieldDesc program id union e
    own_desc_good union u e held at_union kind desc =
        let from = structure_drafted draft planes program is union.0 u at_union in
        desc_of_field program id union e (contains union held)
        (own_good draft program agree faultless number union from.0 e from.1.drafted (sym (ap (λ (t : Structure). t.is_union) from.1.same) ∙ kind) (sym (ap (λ (t : Structure). t.desc) from.1.same) ∙ desc))

    described_of : has_skip df.options ≡ false → (given : Option Expr) → given ≡ o.desc → (id' : ℕ) → df.ty.resolved.base ≡ base.Structure id' → innermost f.ty ≡ ty.Node (node id') (desc_at draft id' given)
        → NamesDescribed program Good (ty.Node (node id') (desc_at draft id' given))
    described_of skip given given_is id' b e =
        let at = present draft.structures id' (subst (NamesStructure draft) b sound.type.there) in
        let held : held_by f.ty ≡ Some (node id') = ap itself e in
        described_at draft planes program is id' at.0 given Good at.1
        (λ u x at_union kind given_some. good_desc skip (node id') held x (sym given_is ∙ given_some))
        (λ u x at_union kind own. own_desc_good (node id') u x held at_union kind own)
        (λ lack. lacks (subst (LacksDesc program) (sym e) lack))

    described_by : (type : Ty) → f.ty ≡ type → OfField draft planes (constants draft) df.options df.ty type → NamesDescribed program Good (innermost type)
    described_by type same (walked skip w) = of_inner draft o df.ty (NamesDescribed program Good) type w (λ s n. tt)
        (λ elem e function is_single. described draft o df.ty program Good elem (λ id' b z e'. described_of skip o.desc refl id' b (ap innermost same ∙ e ∙ e')) is_single)
        (λ elem e function is_single. described draft (of_elements o) df.ty program Good elem (λ id' b z e'. described_of skip o.desc refl id' b (ap innermost same ∙ e ∙ e')) is_single)
    described_by type same (skipped_number {s = s} skip) = subst (NamesDescribed program Good) (sym (inner-num s)) tt
    described_by type same (skipped_bits {s = s} {n = n} skip some most) = subst (NamesDescribed program Good) (sym (inner-bits s n)) tt
    described_by type same (opaque skip) = subst (NamesDescribed program Good) (sym (inner-opaque _ _)) tt

    pub names : NamesFit program Good f.ty
    names = record {
      standing = standing_by f.ty view;
      sortable = sortable_by f.ty (λ skip. good_reorder skip (option_named (codes "reorder") df.options) refl) view;
      described = described_by f.ty refl view;
    }

    -- ---- the shape, where bytes that are passed over have theirs

    shape_by : (type : Ty) → (has_skip df.options ≡ true → is_field_type (opaque_type planes df.ty) ≡ true) → OfField draft planes (constants draft) df.options df.ty type → is_field_type type ≡ true
    shape_by type bytes (walked skip w) = walked_field draft (constants draft) df.options df.ty (reorders skip) skip sound.type.bounds sound.type.few w
    shape_by type bytes (skipped_number {s = s} skip) = ap field_type_at (ty.outs-Num s)
    shape_by type bytes (skipped_bits {s = s} {n = n} skip some most) = bits_shape s n some most
    shape_by type bytes (opaque skip) = bytes skip

    pub shape : (has_skip df.options ≡ true → is_field_type (opaque_type planes df.ty) ≡ true) → is_field_type f.ty ≡ true
    shape bytes = shape_by f.ty bytes view
