-- The roots of a program that a draft without faults declares.
use Rattle.std.proofs.Common.{◌≡◌, ◌∙◌, inl, inr, ℕ, Bool, true, false, not, ◌&&◌, ◌||◌, List, [], Option, Some, None, refl, sym, ap, subst}
use Rattle.std.specs.Prelude.{All, IfSome, codes, slice_get, is_some, option_map, if◌then◌else◌}
use Rattle.std.proofs.lemmas.Option.{none-some}
use Rattle.gt_types.specs.declared.expressions.Expr.{Expr}
use Rattle.gt_types.specs.declared.faults.Fault.{Fault}
use Rattle.gt_types.specs.declared.types.TypeId.{TypeId}
use Rattle.gt_types.specs.declared.types.Ty.{Ty}
use Rattle.gt_types.specs.declared.types.Ty.TheVariants as ty
use Rattle.gt_types.specs.declared.program.Root.{Root}
use Rattle.gt_types.specs.declared.program.Program.{Program}
use Rattle.gt_types.specs.Shapes.{innermost, is_pointer}
use Rattle.gt_types.specs.Contains.{held_by, itself}
use Rattle.gt_types.specs.Paths.{IsInner, LeadsToNumber, IsRootCount, IsRootDesc}
use Rattle.gt_types.specs.Settled.{EndsInPointers, NamesFit, NamesStanding, NamesSortable, NamesDescribed, IsDescOfRoot, IsRoot}
use Rattle.gt_types.specs.Tails.{IsTailType}
use Rattle.gt_items.specs.declared.items.RawOption.{RawOption}
use Rattle.gt_items.specs.declared.items.Stars.{Stars}
use Rattle.gt_items.specs.declared.items.Stars.TheVariants.{One}
use Rattle.gt_layout.specs.declared.planes.Plane.{Plane}
use Rattle.gt_drafts.specs.declared.types.BaseType.{BaseType}
use Rattle.gt_drafts.specs.declared.types.BaseType.TheVariants as base
use Rattle.gt_drafts.specs.declared.draft.Draft.{Draft}
use Rattle.gt_drafts.specs.declared.draft.DraftRoot.{DraftRoot}
use Rattle.gt_drafts.specs.declared.draft.DraftStructure.{DraftStructure}
use Rattle.gt_drafts.specs.Options.{has_option, has_skip}
use Rattle.gt_drafts.specs.Undefined.{is_zero}
use Rattle.gt_drafts.specs.Shapes.{held_type, is_nil}
use Rattle.gt_markers.specs.declared.TheConstants.{WRONG_PLACE, MISSING_DESC, BAD_PATH}
use Rattle.gt_markers.specs.declared.kinds.OptionKind.TheVariants.{Skip, Length, Deletable, MaybeUndef, StringLength, Reorder}
use Rattle.gt_markers.specs.declared.type_options.TypeOptions.{TypeOptions}
use Rattle.gt_markers.specs.Expressions.{constants_and_roots}
use Rattle.gt_markers.specs.MarkerFaults.{draft_faults}
use Rattle.gt_markers.specs.Options.{option_named}
use Rattle.gt_markers.specs.Sites.{at_root, is_single, is_sorted, is_sorted_base, points_to_many}
use Rattle.gt_markers.specs.Sound.{IsBitCount, IsSound, IsSoundRoot, NamesStructure}
use Rattle.gt_markers.specs.Typing.{desc_at, node, of_elements, says}
use Rattle.gt_declare.specs.Programs.{pointed, program_by, root_of}
use Rattle.gt_declare.proofs.FieldTypes.{field_part}
use Rattle.gt_rules.specs.Faults.{HasProgramFault, IsRootAt, LacksDesc, NamesBareUnion, NamesInner, fault, is_plain, plain_node, root_without_desc, root_to_bare_union, root_to_inner, root_of_inner, root_length, root_desc, root_reorder}
use Rattle.gt_rules.specs.Inner.{IsDeclaredInner}
use Rattle.gt_rules.proofs.InnerLemmas.{Agree}
use Rattle.gt_settled.proofs.Stable.{Stable}
use Rattle.gt_settled.proofs.Drafts.{FieldsFine, root_marker, root_typed}
use Rattle.gt_settled.proofs.Expressions.{ends_stable, root_count_stable, root_desc_stable}
use Rattle.gt_settled.proofs.Fits.{counted, described, of_inner, pointer_sortable, standing, walked_points}
use Rattle.gt_settled.proofs.Good.{described_at, good_named, present, stands}
use Rattle.gt_settled.proofs.Lists.{at_place, nil_of}
use Rattle.gt_settled.proofs.Markers.{IsFine, has_is, marker_fine, stands_if}
use Rattle.gt_settled.proofs.Shape.{and_true, and_first, and_second, is_said, not_true, walked_root}
use Rattle.gt_settled.proofs.Tails.{tail_drafted}
use Rattle.gt_settled.proofs.Types.{OfField, Walked, field_view, opaque, skipped_bits, skipped_number, walked}

none_of : {X : Type 0} (o : Option X) → is_some o ≡ false → o ≡ None
none_of None e = refl
none_of (Some x) e = absurd (cc)

neither : (a b : Bool) → a ≡ false → b ≡ false → not (a || b) ≡ true
neither false false p q = refl
neither false true p q = absurd (cc)
neither true b p q = absurd (cc)

module _ (draft : Draft) (planes : List Plane) (program : Program) (is : program ≡ program_by draft planes) (sound : IsSound draft) (none : draft_faults draft ≡ [])
    (agree : Agree (IsDeclaredInner draft) (IsInner program)) (faultless : (f : Fault) → ¬ HasProgramFault draft program f) (number : (node : TypeId) (steps : List (List ℕ)) → Stable (LeadsToNumber program node steps))
    (fines : (place : ℕ) (ds : DraftStructure) → slice_get draft.structures place ≡ Some ds → FieldsFine draft ds ds.fields) where
  module _ (k : ℕ) (dr : DraftRoot) (drafted : slice_get draft.roots k ≡ Some dr) (made : slice_get program.roots k ≡ Some (root_of draft planes dr)) where
    abbrev r : Root
    r = root_of draft planes dr

    abbrev o : TypeOptions
    o = says (constants_and_roots draft) dr.options

    root_at : IsRootAt draft program dr r
    root_at = record { place = k; drafted = drafted; made = made }

    one : IsSoundRoot draft dr
    one = at_place (IsSoundRoot draft) draft.roots k dr sound.roots drafted

    fine : All (IsFine draft (at_root dr.ty) dr.options) dr.options
    fine = marker_fine draft (at_root dr.ty) dr.options dr.file (root_marker draft none k dr drafted)

    no_skip : (b : Bool) → has_skip dr.options ≡ b → b ≡ false
    no_skip false e = refl
    no_skip true e = let never : false ≡ true = stands_if draft (at_root dr.ty) dr.options (codes "skip") Skip fine refl refl e in absurd (cc)

    skip : has_skip dr.options ≡ false
    skip = no_skip (has_skip dr.options) refl

    no_string : (b : Bool) → has_option (codes "string_length") dr.options ≡ b → b ≡ false
    no_string false e = refl
    no_string true e = let never : false ≡ true = stands_if draft (at_root dr.ty) dr.options (codes "string_length") StringLength fine refl refl e in absurd (cc)

    no_undefined : (b : Bool) → has_option (codes "maybe_undef") dr.options ≡ b → b ≡ false
    no_undefined false e = refl
    no_undefined true e = let never : false ≡ true = stands_if draft (at_root dr.ty) dr.options (codes "maybe_undef") MaybeUndef fine refl refl e in absurd (cc)

    string_none : o.string_length ≡ None
    string_none = none_of o.string_length (is_said (constants_and_roots draft) (codes "string_length") dr.options ∙ no_string (has_option (codes "string_length") dr.options) refl)

    one_count : has_option (codes "length") dr.options ≡ true → dr.ty.bounds ≡ []
    one_count has =
        let counts = stands_if draft (at_root dr.ty) dr.options (codes "length") Length fine refl refl has in
        nil_of dr.ty.bounds (and_first (is_nil dr.ty.bounds) (not dr.ty.is_function) (and_first (is_nil dr.ty.bounds && not dr.ty.is_function) (points_to_many dr.ty.resolved.base dr.ty.resolved.stars) counts))

    reorders : has_option (codes "reorder") dr.options ≡ true → is_sorted dr.options dr.ty ≡ true
    reorders has = stands_if draft (at_root dr.ty) dr.options (codes "reorder") Reorder fine refl refl has

    bits_none : IfSome dr.ty.bits (IsBitCount dr.ty)
    bits_none = one.type.bits

    of_view : (type : Ty) → OfField draft planes (constants_and_roots draft) dr.options dr.ty type → Walked draft o dr.ty type
    of_view type (walked no_skip w) = w
    of_view type (skipped_number has) = let never : false ≡ true = sym skip ∙ has in absurd (cc)
    of_view type (skipped_bits has some most) = let never : false ≡ true = sym skip ∙ has in absurd (cc)
    of_view type (opaque has) = let never : false ≡ true = sym skip ∙ has in absurd (cc)

    walks : Walked draft o dr.ty r.ty
    walks = of_view r.ty (field_view draft planes (constants_and_roots draft) dr.options dr.ty bits_none (root_typed draft none k dr drafted))

    bare : ¬ NamesBareUnion program dr.options dr.ty
    bare names = faultless (fault MISSING_DESC dr.file dr.name.at) (root_to_bare_union root_at names)

    inner : ¬ NamesInner draft dr.options dr.ty
    inner names = faultless (fault BAD_PATH dr.file dr.name.at) (root_to_inner root_at names)

    lacks : ¬ LacksDesc program (innermost r.ty)
    lacks lack = faultless (fault MISSING_DESC dr.file dr.name.at) (root_without_desc root_at lack)

    good_length : (e : Expr) → o.length ≡ Some e → IsRootCount program e
    good_length = good_named (constants_and_roots draft) (IsRootCount program) (root_count_stable program number) (codes "length") dr.options
        (λ o named bad. faultless (fault BAD_PATH dr.file o.name.at) (root_length root_at named bad))

    good_string : (e : Expr) → o.string_length ≡ Some e → IsRootCount program e
    good_string e is = absurd (none-some e (sym string_none ∙ is))

    held_root : (id : TypeId) → held_by r.ty ≡ Some id → held_type dr.ty ≡ Some id.0
    held_root id held =
        (field_part (λ n. Unit {0}) (λ n good. tt) planes dr.ty (λ id is. tt) (constants_and_roots draft) draft dr.options bits_none).held id held

    good_desc : (union : TypeId) → held_by r.ty ≡ Some union → (e : Expr) → o.desc ≡ Some e → IsRootDesc program union e
    good_desc union held = good_named (constants_and_roots draft) (IsRootDesc program union) (root_desc_stable program number union) (codes "desc") dr.options
        (λ o named bad. faultless (fault BAD_PATH dr.file o.name.at) (root_desc root_at named (ap (λ (id : Option ℕ). option_map node id) (held_root union held)) bad))

    ends_by : (found : Option RawOption) → option_named (codes "reorder") dr.options ≡ found → has_option (codes "reorder") dr.options ≡ true → (id : ℕ)
        → plain_node dr.options dr.ty ≡ Some (node id) → EndsInPointers program (node id)
    ends_by None named has id plain = let never : true ≡ false = sym has ∙ has_is (codes "reorder") dr.options ∙ ap is_some named in absurd (cc)
    ends_by (Some o) named has id plain = ends_stable program (node id) (λ bad. faultless (fault WRONG_PLACE dr.file o.name.at) (root_reorder root_at named plain bad))

    -- what may be sorted, and has no `length`, is a plain pointer by its declaration
    plain : (id : ℕ) → dr.ty.resolved.base ≡ base.Structure id → dr.ty.resolved.stars ≡ One → o.length ≡ None → has_option (codes "reorder") dr.options ≡ true
        → plain_node dr.options dr.ty ≡ Some (node id)
    plain id b one none has =
        ap (λ (p : Bool). if p then pointed dr.ty.resolved.base dr.ty.resolved.stars else None) is_so
        ∙ ap (λ (x : BaseType). pointed x dr.ty.resolved.stars) b ∙ ap (λ (x : Stars). pointed (base.Structure id) x) one
      where
        uncounted : has_option (codes "length") dr.options ≡ false
        uncounted = sym (is_said (constants_and_roots draft) (codes "length") dr.options) ∙ ap is_some none

        scanned : has_option (codes "atomic") dr.options ≡ false
        scanned = not_true (has_option (codes "atomic") dr.options) (and_second (is_single dr.ty && is_sorted_base (has_option (codes "length") dr.options) dr.ty.resolved.base dr.ty.resolved.stars) (not (has_option (codes "atomic") dr.options)) (reorders has))

        is_so : is_plain dr.options dr.ty ≡ true
        is_so =
            let both = and_first (is_single dr.ty && is_sorted_base (has_option (codes "length") dr.options) dr.ty.resolved.base dr.ty.resolved.stars) (not (has_option (codes "atomic") dr.options)) (reorders has) in
            and_true (is_single dr.ty) (not (has_option (codes "length") dr.options || has_option (codes "atomic") dr.options))
            (and_first (is_single dr.ty) (is_sorted_base (has_option (codes "length") dr.options) dr.ty.resolved.base dr.ty.resolved.stars) both)
            (neither (has_option (codes "length") dr.options) (has_option (codes "atomic") dr.options) uncounted scanned)

    ends : (id : ℕ) → dr.ty.resolved.base ≡ base.Structure id → dr.ty.resolved.stars ≡ One → o.length ≡ None → o.reorder ≡ true → EndsInPointers program (node id)
    ends id b one none has = ends_by (option_named (codes "reorder") dr.options) refl has id (plain id b one none has)

    described_of : (given : Option Expr) → given ≡ o.desc → (id : ℕ) → dr.ty.resolved.base ≡ base.Structure id → innermost r.ty ≡ ty.Node (node id) (desc_at draft id given)
        → NamesDescribed program (IsDescOfRoot program) (ty.Node (node id) (desc_at draft id given))
    described_of given given_is id b e =
        let at = present draft.structures id (subst (NamesStructure draft) b one.type.there) in
        let held : held_by r.ty ≡ Some (node id) = ap itself e in
        described_at draft planes program is id at.0 given (IsDescOfRoot program) at.1
        (λ u x at_union kind given_some. inr (good_desc (node id) held x (sym given_is ∙ given_some)))
        (λ u x at_union kind own. inl own)
        (λ lack. lacks (subst (LacksDesc program) (sym e) lack))

    names : NamesFit program (IsDescOfRoot program) r.ty
    names = record {
      standing = of_inner draft o dr.ty (NamesStanding program) r.ty walks (λ s n. tt)
          (λ elem e function single. standing draft o dr.ty program (stands draft planes program is dr.options dr.ty skip function one.type.there agree bare inner) single)
          (λ elem e function single. standing draft (of_elements o) dr.ty program (stands draft planes program is dr.options dr.ty skip function one.type.there agree bare inner) single);
      sortable = of_inner draft o dr.ty (NamesSortable program) r.ty walks (λ s n. tt)
          (λ elem e function is_so. pointer_sortable draft o dr.ty program ends is_so)
          (λ elem e function is_so. pointer_sortable draft (of_elements o) dr.ty program (λ id b one none has. absurd (cc)) is_so);
      described = of_inner draft o dr.ty (NamesDescribed program (IsDescOfRoot program)) r.ty walks (λ s n. tt)
          (λ elem e function is_single. described draft o dr.ty program (IsDescOfRoot program) elem (λ id b z e'. described_of o.desc refl id b (e ∙ e')) is_single)
          (λ elem e function is_single. described draft (of_elements o) dr.ty program (IsDescOfRoot program) elem (λ id b z e'. described_of o.desc refl id b (e ∙ e')) is_single);
    }

    no_tail : (id : TypeId) → held_by r.ty ≡ Some id → ¬ IsTailType program id
    no_tail id held ending =
        let kept = one.type.tail id.0 (held_root id held) (tail_drafted draft planes program is sound fines id ending) in
        let never : false ≡ true = kept.0 in cc

    deletes : has_option (codes "deletable") dr.options ≡ true → is_pointer (innermost r.ty) ≡ true
    deletes has =
        let pointers = stands_if draft (at_root dr.ty) dr.options (codes "deletable") Deletable fine refl refl has in
        walked_points draft o dr.ty r.ty one.no_bits (not_true (is_zero dr.ty.resolved.stars) (and_second (not dr.ty.is_function) (not (is_zero dr.ty.resolved.stars)) pointers)) walks

    pub root_good : IsRoot program r
    root_good = record {
      name = one.name;
      shape = walked_root draft (constants_and_roots draft) dr.options dr.ty reorders skip one.type.bounds one.type.few one.no_bits string_none (no_undefined (has_option (codes "maybe_undef") dr.options) refl) one_count walks;
      names = names;
      count = counted draft o dr.ty (IsRootCount program) good_length good_string walks;
      whole = λ id held. (λ is_inner. faultless (fault BAD_PATH dr.file dr.name.at) (root_of_inner root_at held ((agree id).1 is_inner)), no_tail id held);
      deletable = deletes;
    }
