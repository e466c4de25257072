-- The structures that a draft without faults declares inner are those of its program.
use Rattle.std.proofs.Common.{◌≡◌, ◌∙◌, inl, inr, ℕ, zero, suc, Bool, true, false, not, ◌&&◌, ◌||◌, List, [], ◌∷◌, ◌<◌, length, map, get_or, Option, Some, None, refl, sym, ap, subst, arith}
use Rattle.std.specs.Prelude.{AllPairs, Any, Contains, IfSome, codes, filter_map, if◌then◌else◌, is_some, option_map, option_to_list, slice_get}
use Rattle.std.specs.List.{list_any}
use Rattle.std.specs.Option.{option_map_or}
use Rattle.std.proofs.lemmas.List.Elements.{All-contains}
use Rattle.std.proofs.lemmas.List.Folds.{Any-from_list_any, list_any-from_Any}
use Rattle.std.proofs.lemmas.Option.{none-some, same_Some, slice_get-get_or}
use Rattle.gt_types.specs.declared.expressions.Expr.{Expr}
use Rattle.gt_types.specs.declared.types.TypeId.{TypeId}
use Rattle.gt_types.specs.declared.types.Ty.{Ty}
use Rattle.gt_types.specs.declared.program.Field.{Field}
use Rattle.gt_types.specs.declared.program.Structure.{Structure}
use Rattle.gt_types.specs.declared.program.Program.{Program}
use Rattle.gt_types.specs.Paths.{IsInner, NamesOuter, own_expressions}
use Rattle.gt_types.specs.Shapes.{count_of}
use Rattle.gt_items.specs.declared.items.Parameter.{Parameter}
use Rattle.gt_items.specs.declared.items.Parameter.TheVariants.{Absent, Expression, Text}
use Rattle.gt_items.specs.declared.items.RawOption.{RawOption}
use Rattle.gt_layout.specs.declared.planes.Plane.{Plane}
use Rattle.gt_drafts.specs.declared.draft.Draft.{Draft}
use Rattle.gt_drafts.specs.declared.draft.DraftField.{DraftField}
use Rattle.gt_drafts.specs.declared.draft.DraftStructure.{DraftStructure}
use Rattle.gt_drafts.specs.Options.{has_option, has_skip}
use Rattle.gt_drafts.specs.Sameness.{same_bool}
use Rattle.gt_markers.specs.declared.kinds.OptionKind.{OptionKind}
use Rattle.gt_markers.specs.declared.kinds.OptionKind.TheVariants.{Skip, Length, Desc, Tag, Default, Cache, Deletable, MaybeUndef, ChainNext, ChainPrev, ChainCircular, Atomic, StringLength, VariableSize, ForUser, Reorder}
use Rattle.gt_markers.specs.Expressions.{constants, expression_of}
use Rattle.gt_markers.specs.MarkerFaults.{draft_faults}
use Rattle.gt_markers.specs.Options.{exclude, has_parameter, kind_of, needs_parameter, option_named, stands_beside_skip}
use Rattle.gt_markers.specs.Sites.{Site, at_field, at_structure, is_passed_over, is_tag, may_stand}
use Rattle.gt_markers.specs.Sound.{IsSound, IsSoundField}
use Rattle.gt_markers.specs.Typing.{expression_named, own_desc, says}
use Rattle.gt_declare.specs.Programs.{field_of, field_type, program_by}
use Rattle.gt_paths.specs.Results.{HasResult}
use Rattle.gt_paths.proofs.Walks.{any_joins, result_in, result_of}
use Rattle.gt_rules.specs.Inner.{IsDeclaredInner, has_outer_option, is_declared_inner, has_outer_desc, is_outer_kind, is_outer_option, parameter_names_container}
use Rattle.gt_rules.proofs.InnerLemmas.{Agree}
use Rattle.gt_settled.proofs.Chains.{kind_name, name_of}
use Rattle.gt_settled.proofs.Counts.{or_cases, walked_counted, walked_string}
use Rattle.gt_settled.proofs.Drafts.{FieldFine, fields_fine, fine_at, structure_fields, structure_marker}
use Rattle.gt_settled.proofs.Fits.{counted}
use Rattle.gt_settled.proofs.Inside.{field_sound}
use Rattle.gt_settled.proofs.Lists.{in_list}
use Rattle.gt_settled.proofs.Made.{IsMade, field_drafted, structure_at, structure_drafted}
use Rattle.gt_settled.proofs.Markers.{AreBeside, AreTwo, IsFine, found, has_is, marker_besides, marker_fine, marker_pairs, never_both, only_one}
use Rattle.gt_settled.proofs.Outer.{outer_no_constant, outer_same}
use Rattle.gt_settled.proofs.Shape.{and_first, and_second, and_true, not_true}
use Rattle.gt_settled.proofs.Types.{OfField, Walked, field_view, opaque, skipped_bits, skipped_number, walked}

or_one : (a b : Bool) → a ≡ true → (a || b) ≡ true
or_one true b e = refl
or_one false b e = absurd (cc)

or_other : (a b : Bool) → b ≡ true → (a || b) ≡ true
or_other true b e = refl
or_other false b e = e

has_one : (p : Parameter) → parameter_names_container p ≡ true → has_parameter p ≡ true
has_one (Expression e) outer = refl
has_one (Text text) outer = refl
has_one Absent outer = absurd (cc)

-- an option that is found among some satisfies them
any_of : {X : Type 0} (p : X → Bool) (xs : List X) (x : X) → Contains xs x → p x ≡ true → list_any p xs ≡ true
any_of p xs x (k, within, is) e = list_any-from_Any p xs (k, x, within, is, e)

any_mapped : {X Y : Type 0} (P : Y → Type 0) (g : X → Y) (xs : List X) (k : ℕ) (x : X) → slice_get xs k ≡ Some x → P (g x) → Any P (map g xs)
any_mapped P g [] k x at holds = absurd (none-some x at)
any_mapped P g (y ∷ ys) zero x at holds = (0, g y, omega arith, refl, subst (λ z. P (g z)) (sym (same_Some y x at)) holds)
any_mapped P g (y ∷ ys) (suc k) x at holds = let m = any_mapped P g ys k x at holds in (suc m.0, m.1, omega (arith, m.2), m.3, m.4)

pub at_any : {X : Type 0} {P : X → Type 0} (xs : List X) (any : Any P xs) → slice_get xs any.0 ≡ Some any.1
at_any xs any = slice_get-get_or xs any.0 any.1 any.2 ∙ ap (λ y. Some y) any.3

-- ---- an option that stands there as a draft without faults has it

-- the option of a name that is read is one that names the container, where its expression does
names_by : (draft : Draft) (name : List ℕ) (options : List RawOption) (e : Expr) → expression_named (constants draft) name options ≡ Some e → NamesOuter e
    → (o : RawOption) × Contains options o × (o.name.word ≡ name) × (parameter_names_container o.parameter ≡ true)
names_by draft name options e is outer = by (option_named name options) refl is
  where
    by : (o : Option RawOption) → option_named name options ≡ o → option_map (λ (o : RawOption). expression_of (constants draft) o.parameter) o ≡ Some e
        → (o : RawOption) × Contains options o × (o.name.word ≡ name) × (parameter_names_container o.parameter ≡ true)
    by None named is = absurd (none-some e is)
    by (Some o) named is =
        let at = found name options o named in
        (o, at.0, at.1, (outer_same draft o.parameter).1 (subst NamesOuter (sym (same_Some (expression_of (constants draft) o.parameter) e is)) outer))

-- options of which each stands once
named_once : (site : Site) (options : List RawOption) (o : RawOption) (kind : OptionKind) (name : List ℕ) → AllPairs (AreTwo site options) options → Contains options o → o.name.word ≡ name
    → kind_of name ≡ Some kind → is_passed_over site options kind ≡ false → is_tag kind ≡ false → option_named name options ≡ Some o
named_once site options o kind name pairs there same is passed tag =
    only_one name options o (λ i j d lower within named. pairs i j d lower within kind (ap kind_of named ∙ is) passed tag) there same

module _ (draft : Draft) (planes : List Plane) (program : Program) (is : program ≡ program_by draft planes) (sound : IsSound draft) (none : draft_faults draft ≡ []) where
  module _ (place : ℕ) (ds : DraftStructure) (drafted : slice_get draft.structures place ≡ Some ds) where
    module _ (k : ℕ) (df : DraftField) (at : slice_get ds.fields k ≡ Some df) where
      one : IsSoundField draft ds.is_union df
      one = field_sound draft planes program is sound place ds k df drafted at

      fine : (last : Bool) × FieldFine draft ds last df
      fine = fine_at draft ds ds.fields k df (fields_fine draft ds (structure_fields draft none place ds drafted)) at

      view : OfField draft planes (constants draft) df.options df.ty (field_type draft planes df)
      view = field_view draft planes (constants draft) df.options df.ty one.type.bits fine.1.typed

      -- ---- from the program to the draft

      declared_by_name : (name : List ℕ) → is_outer_kind (kind_of name) ≡ true → has_skip df.options ≡ false → (e : Expr)
          → expression_named (constants draft) name df.options ≡ Some e → NamesOuter e → has_outer_option df ≡ true
      declared_by_name name plain skip e said outer =
          let o = names_by draft name df.options e said outer in
          and_true (not (has_skip df.options)) (list_any is_outer_option df.options) (ap not skip)
          (any_of is_outer_option df.options o.0 o.1
          (and_true (is_outer_kind (kind_of o.0.name.word)) (parameter_names_container o.0.parameter) (ap (λ (word : List ℕ). is_outer_kind (kind_of word)) o.2 ∙ plain) o.3))

      declared_by_view : {type : Ty} → OfField draft planes (constants draft) df.options df.ty type → IfSome (count_of type) (λ e. NamesOuter e → has_outer_option df ≡ true)
      declared_by_view (walked skip w) =
          counted draft (says (constants draft) df.options) df.ty (λ e. NamesOuter e → has_outer_option df ≡ true) (declared_by_name (codes "length") refl skip)
          (declared_by_name (codes "string_length") refl skip) w
      declared_by_view (skipped_number skip) = tt
      declared_by_view (skipped_bits skip some most) = tt
      declared_by_view (opaque skip) = tt

      pub declared_field : (e : Expr) → count_of (field_type draft planes df) ≡ Some e → NamesOuter e → has_outer_option df ≡ true
      declared_field e count outer = subst (λ (o : Option Expr). IfSome o (λ x. NamesOuter x → has_outer_option df ≡ true)) count (declared_by_view view) outer

      -- ---- from the draft to the program

      module _ (skip : has_skip df.options ≡ false) (o : RawOption) (there : Contains df.options o) (outer : is_outer_option o ≡ true) where
        abbrev site : Site
        site = at_field ds.is_union fine.0 df.ty

        container : parameter_names_container o.parameter ≡ true
        container = and_second (is_outer_kind (kind_of o.name.word)) (parameter_names_container o.parameter) outer

        plain : is_outer_kind (kind_of o.name.word) ≡ true
        plain = and_first (is_outer_kind (kind_of o.name.word)) (parameter_names_container o.parameter) outer

        good : IsFine draft site df.options o
        good = All-contains (IsFine draft site df.options) df.options o (marker_fine draft site df.options ds.file fine.1.marker) there

        passed : (kind : OptionKind) → is_passed_over site df.options kind ≡ false
        passed kind = ap (λ (b : Bool). b && not (stands_beside_skip kind)) skip

        unneeded : (kind : OptionKind) → kind_of o.name.word ≡ Some kind → needs_parameter kind ≡ false → ⊥
        unneeded kind known none =
            let never : false ≡ true =
            sym (ap (λ (b : Bool). same_bool b (has_parameter o.parameter)) none ∙ ap not (has_one o.parameter container)) ∙ good.formed kind known (passed kind) in cc

        misplaced : (kind : OptionKind) → kind_of o.name.word ≡ Some kind → may_stand draft.structures site df.options kind ≡ false → ⊥
        misplaced kind known none = let never : false ≡ true = sym none ∙ good.stands kind known (passed kind) in cc

        -- no `atomic` stands beside an option that it excludes
        module _ (kind : OptionKind) (known : kind_of o.name.word ≡ Some kind) (one_way : exclude kind Atomic ≡ true) (other_way : exclude Atomic kind ≡ true) where
          apart_by : (a : RawOption) → option_named (codes "atomic") df.options ≡ Some a → ⊥
          apart_by a named =
              let at = found (codes "atomic") df.options a named in
              never_both (AreBeside site df.options) df.options o a (marker_besides draft site df.options ds.file fine.1.marker)
              (λ beside. (let never : true ≡ false = sym other_way ∙ sym (ap (λ (x : Option OptionKind). option_map_or (exclude Atomic) x false) known) ∙ beside Atomic (ap kind_of at.1) (passed Atomic) in cc))
              (λ beside. (let never : true ≡ false = sym one_way ∙ sym (ap (λ (word : List ℕ). option_map_or (exclude kind) (kind_of word) false) at.1) ∙ beside kind known (passed kind) in cc))
              (λ same. (
              let is_so : kind ≡ Atomic = same_Some kind Atomic (sym known ∙ ap kind_of (same ∙ at.1)) in
              let never : true ≡ false = sym one_way ∙ ap (λ (x : OptionKind). exclude x Atomic) is_so in cc))
              there at.0

          scanned_by : (a : Option RawOption) → option_named (codes "atomic") df.options ≡ a → is_some a ≡ false
          scanned_by None named = refl
          scanned_by (Some a) named = absurd (apart_by a named)

          scanned : has_option (codes "atomic") df.options ≡ false
          scanned = has_is (codes "atomic") df.options ∙ scanned_by (option_named (codes "atomic") df.options) refl

        of_view : {type : Ty} → OfField draft planes (constants draft) df.options df.ty type → Walked draft (says (constants draft) df.options) df.ty type
        of_view (walked no_skip w) = w
        of_view (skipped_number has) = let never : false ≡ true = sym skip ∙ has in absurd (cc)
        of_view (skipped_bits has some most) = let never : false ≡ true = sym skip ∙ has in absurd (cc)
        of_view (opaque has) = let never : false ≡ true = sym skip ∙ has in absurd (cc)

        abbrev e : Expr
        e = expression_of (constants draft) o.parameter

        read : (kind : OptionKind) → kind_of o.name.word ≡ Some kind → kind_of (name_of kind) ≡ Some kind → is_tag kind ≡ false → expression_named (constants draft) (name_of kind) df.options ≡ Some e
        read kind known named tag =
            ap (λ (x : Option RawOption). option_map (λ (r : RawOption). expression_of (constants draft) r.parameter) x)
            (named_once site df.options o kind (name_of kind) (marker_pairs draft site df.options ds.file fine.1.marker) there (kind_name o.name.word kind known) named (passed kind) tag)

        counts : (kind : OptionKind) → kind_of o.name.word ≡ Some kind → count_of (field_type draft planes df) ≡ Some e
        counts Length known =
            walked_counted draft (says (constants draft) df.options) df.ty e (scanned Length known refl refl) one.type.bits ds.is_union fine.0 (good.stands Length known (passed Length)) (read Length known refl refl) (of_view view)
        counts StringLength known =
            walked_string draft (says (constants draft) df.options) df.ty e (scanned StringLength known refl refl) one.type.bits (good.stands StringLength known (passed StringLength)) (read StringLength known refl refl) (of_view view)
        counts Desc known =
            let never : false ≡ true = sym (ap is_outer_kind known) ∙ plain in absurd (cc)
        counts Reorder known =
            let never : false ≡ true = sym (ap is_outer_kind known) ∙ plain in absurd (cc)
        counts Tag known = let never : false ≡ true = sym (good.valued Tag known (passed Tag) refl) ∙ outer_no_constant draft o.parameter container in absurd (cc)
        counts ChainNext known = absurd (misplaced ChainNext known refl)
        counts ChainPrev known = absurd (misplaced ChainPrev known refl)
        counts ChainCircular known = absurd (misplaced ChainCircular known refl)
        counts Skip known = absurd (unneeded Skip known refl)
        counts Default known = absurd (unneeded Default known refl)
        counts Cache known = absurd (unneeded Cache known refl)
        counts Deletable known = absurd (unneeded Deletable known refl)
        counts MaybeUndef known = absurd (unneeded MaybeUndef known refl)
        counts Atomic known = absurd (unneeded Atomic known refl)
        counts VariableSize known = absurd (unneeded VariableSize known refl)
        counts ForUser known = absurd (unneeded ForUser known refl)

        counts_by : (kind : Option OptionKind) → kind_of o.name.word ≡ kind → is_some kind ≡ true → count_of (field_type draft planes df) ≡ Some e
        counts_by None known is = absurd (cc)
        counts_by (Some kind) known is = counts kind known

        count_outer : HasResult (λ (f : Field). count_of f.ty) NamesOuter (field_of draft planes ds.is_union df)
        count_outer = (e, counts_by (kind_of o.name.word) refl good.known, (outer_same draft o.parameter).0 container)

      pub inner_field : has_outer_option df ≡ true → HasResult (λ (f : Field). count_of f.ty) NamesOuter (field_of draft planes ds.is_union df)
      inner_field has =
          let any = Any-from_list_any is_outer_option df.options (and_second (not (has_skip df.options)) (list_any is_outer_option df.options) has) in
          count_outer (not_true (has_skip df.options) (and_first (not (has_skip df.options)) (list_any is_outer_option df.options) has)) any.1 (any.0, any.2, any.3) any.4

    -- ---- the own `desc`

    own_said : (union : Bool) → ds.is_union ≡ union → (e : Expr) → (if union then expression_named (constants draft) (codes "desc") ds.options else None) ≡ Some e
        → expression_named (constants draft) (codes "desc") ds.options ≡ Some e
    own_said true kind e said = said
    own_said false kind e said = absurd (none-some e said)

    pub declared_desc : (e : Expr) → own_desc draft ds ≡ Some e → NamesOuter e → has_outer_desc ds.options ≡ true
    declared_desc e said outer = by (option_named (codes "desc") ds.options) (own_said ds.is_union refl e said)
      where
        by : (o : Option RawOption) → option_map (λ (r : RawOption). expression_of (constants draft) r.parameter) o ≡ Some e
            → option_map_or (λ (r : RawOption). parameter_names_container r.parameter) o false ≡ true
        by None is = absurd (none-some e is)
        by (Some o) is = (outer_same draft o.parameter).1 (subst NamesOuter (sym (same_Some (expression_of (constants draft) o.parameter) e is)) outer)

    pub inner_desc : has_outer_desc ds.options ≡ true → (e : Expr) × (own_desc draft ds ≡ Some e) × NamesOuter e
    inner_desc has = by (option_named (codes "desc") ds.options) refl has
      where
        by : (o : Option RawOption) → option_named (codes "desc") ds.options ≡ o → option_map_or (λ (r : RawOption). parameter_names_container r.parameter) o false ≡ true
            → (e : Expr) × (own_desc draft ds ≡ Some e) × NamesOuter e
        by None named has = absurd (cc)
        by (Some o) named has =
            let there = found (codes "desc") ds.options o named in
            let marker = structure_marker draft none place ds drafted in
            let union : ds.is_union ≡ true =
            (All-contains (IsFine draft (at_structure ds.is_union) ds.options) ds.options o (marker_fine draft (at_structure ds.is_union) ds.options ds.file marker) there.0).stands Desc (ap kind_of there.1) refl in (
              expression_of (constants draft) o.parameter,
              ap (λ (b : Bool). if b then expression_named (constants draft) (codes "desc") ds.options else None) union
                  ∙ ap (λ (x : Option RawOption). option_map (λ (r : RawOption). expression_of (constants draft) r.parameter) x) named,
              (outer_same draft o.parameter).0 has,
            )

  -- ---- the structures

  abbrev Counted : Field → Type 0
  Counted = HasResult (λ (f : Field). count_of f.ty) NamesOuter

  module _ (id : TypeId) (ds : DraftStructure) (s : Structure) (made : IsMade draft planes id.0 ds s) where
    declared_by_fields : Any Counted s.fields → list_any has_outer_option ds.fields ≡ true
    declared_by_fields any =
        let from = field_drafted draft planes id.0 ds s made any.0 any.1 (at_any s.fields any) in
        let result = any.4 in
        any_of has_outer_option ds.fields from.0 (in_list ds.fields any.0 from.0 from.1)
        (declared_field id.0 ds made.drafted any.0 from.0 from.1 result.0 (sym (ap (λ (f : Field). count_of f.ty) from.2) ∙ result.1) result.2)

    declared_by_desc : (d : Option Expr) → s.desc ≡ d → Any NamesOuter (option_to_list d) → has_outer_desc ds.options ≡ true
    declared_by_desc None same any = absurd (omega (arith, any.2))
    declared_by_desc (Some e) same any =
        let outer = subst NamesOuter (of_one e any.1 any.0 any.2 any.3) any.4 in
        declared_desc id.0 ds made.drafted e (sym (ap (λ (t : Structure). t.desc) made.same) ∙ same) outer
      where
        of_one : (x y : Expr) (k : ℕ) → k < length (x ∷ []) → get_or (x ∷ []) k y ≡ y → y ≡ x
        of_one x y k within same = let first : k ≡ 0 = omega (arith, within) in sym (subst (λ (i : ℕ). get_or (x ∷ []) i y ≡ y) first same)

    declared_by_own : Any NamesOuter (own_expressions s) → is_declared_inner ds ≡ true
    declared_by_own any =
        elim ((any_joins NamesOuter).cases (filter_map (λ (f : Field). count_of f.ty) s.fields) (option_to_list s.desc) any) [
          | inl counts ↦ or_other (has_outer_desc ds.options) (list_any has_outer_option ds.fields) (declared_by_fields (result_of (λ (f : Field). count_of f.ty) NamesOuter s.fields counts))
          | inr own ↦ or_one (has_outer_desc ds.options) (list_any has_outer_option ds.fields) (declared_by_desc s.desc refl own)
        ]

    inner_by_fields : list_any has_outer_option ds.fields ≡ true → Any Counted s.fields
    inner_by_fields has =
        let any = Any-from_list_any has_outer_option ds.fields has in
        let at = at_any ds.fields any in
        subst (λ (fs : List Field). Any Counted fs) (sym (ap (λ (t : Structure). t.fields) made.same))
        (any_mapped Counted (field_of draft planes ds.is_union) ds.fields any.0 any.1 at (inner_field id.0 ds made.drafted any.0 any.1 at any.4))

    inner_by_desc : has_outer_desc ds.options ≡ true → Any NamesOuter (option_to_list s.desc)
    inner_by_desc has =
        let own = inner_desc id.0 ds made.drafted has in
        subst (λ (d : Option Expr). Any NamesOuter (option_to_list d)) (sym (ap (λ (t : Structure). t.desc) made.same ∙ own.1)) (0, own.0, omega arith, refl, own.2)

    inner_by_own : is_declared_inner ds ≡ true → Any NamesOuter (own_expressions s)
    inner_by_own is_so =
        elim (or_cases (has_outer_desc ds.options) (list_any has_outer_option ds.fields) is_so) [
          | inl own ↦ (any_joins NamesOuter).second (filter_map (λ (f : Field). count_of f.ty) s.fields) (option_to_list s.desc) (inner_by_desc own)
          | inr fields ↦
              (any_joins NamesOuter).first (filter_map (λ (f : Field). count_of f.ty) s.fields) (option_to_list s.desc) (result_in (λ (f : Field). count_of f.ty) NamesOuter s.fields (inner_by_fields fields))
        ]

  -- the structures that are declared inner are those of the program
  pub same_inner : Agree (IsDeclaredInner draft) (IsInner program)
  same_inner id = (
    λ (ds, at, is_so). (let made = structure_at draft planes program is id.0 ds at in (made.0, made.1, inner_by_own id ds made.0 made.2 is_so)),
    λ (s, there, any). (let from = structure_drafted draft planes program is id.0 s there in (from.0, from.1.drafted, declared_by_own id from.0 s from.1 any)),
  )
