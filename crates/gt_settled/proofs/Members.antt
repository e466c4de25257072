-- The members of a union that a draft without faults declares.
use Rattle.std.proofs.Common.{◌≡◌, ◌≢◌, ◌∙◌, ℕ, ℤ, Bool, true, false, not, ◌&&◌, ◌||◌, List, [], ◌∷◌, ◌++◌, Option, Some, None, refl, sym, ap, subst, get_or}
use Rattle.std.specs.Prelude.{All, AllPairs, codes, slice_get, is_none, is_some, if◌then◌else◌}
use Rattle.std.specs.Option.{option_map_or}
use Rattle.std.specs.List.{list_any}
use Rattle.std.proofs.lemmas.Bool.Decides.{Decides-int_eq}
use Rattle.std.proofs.lemmas.Option.{none-some}
use Rattle.std.proofs.lemmas.List.Elements.{All-nil, All-cons, All-contains}
use Rattle.std.proofs.lemmas.List.Kept.{AllPairs-cons}
use Rattle.gt_types.specs.declared.program.Active.{Active}
use Rattle.gt_types.specs.declared.program.Active.TheVariants.{Always, Tag, Other, Never}
use Rattle.gt_types.specs.declared.types.Ty.{Ty}
use Rattle.gt_types.specs.Shapes.{is_unscanned}
use Rattle.gt_types.specs.Unions.{AreApart}
use Rattle.gt_items.specs.declared.items.RawOption.{RawOption}
use Rattle.gt_layout.specs.declared.planes.Plane.{Plane}
use Rattle.gt_drafts.specs.declared.types.DeclaredType.{DeclaredType}
use Rattle.gt_drafts.specs.declared.draft.Draft.{Draft}
use Rattle.gt_drafts.specs.declared.draft.DraftField.{DraftField}
use Rattle.gt_drafts.specs.declared.draft.DraftStructure.{DraftStructure}
use Rattle.gt_drafts.specs.Options.{has_option, has_skip}
use Rattle.gt_markers.specs.declared.TheConstants.{DUPLICATE_TAG}
use Rattle.gt_markers.specs.declared.kinds.OptionKind.TheVariants as kinds
use Rattle.gt_markers.specs.Actives.{active_of, tag_of, without_tag}
use Rattle.gt_markers.specs.Expressions.{Names, constants, constant_value}
use Rattle.gt_markers.specs.MarkerFaults.{field_faults, fields_faults, has_tag, is_default, is_empty, is_unmarked, repeated_fault, repeated_faults, same_tag, tag_value}
use Rattle.gt_markers.specs.Options.{kind_of, option_named}
use Rattle.gt_markers.specs.Sites.{at_field}
use Rattle.gt_settled.proofs.Drafts.{FieldFine, FieldsFine, fine_at}
use Rattle.gt_settled.proofs.Lists.{nil_front, nil_back, no_fault, pairs_nil, pairs_at, all_pairs}
use Rattle.gt_settled.proofs.Markers.{IsFine, all_front, all_last, any_none, found, has_is, marker_fine}
use Rattle.gt_settled.proofs.Types.{OfField, opaque, skipped_bits, skipped_number, walked}

-- ---- when a member is active

by_default : (d : Bool) → (if d then Other else Never) ≢ Always
by_default true e = cc
by_default false e = cc

by_value : (v : Option ℤ) → tag_of v ≢ Always
by_value None e = cc
by_value (Some n) e = cc

pub not_always : (draft : Draft) (options : List RawOption) → active_of draft true options ≢ Always
not_always draft options = by (option_named (codes "tag") options)
  where
    by : (o : Option RawOption) → option_map_or (λ o. tag_of (constant_value draft o.parameter)) o (without_tag options) ≢ Always
    by None = by_default (has_option (codes "default") options)
    by (Some o) = by_value (constant_value draft o.parameter)

-- a member that is never active has neither a tag nor `default`
pub never_marked : (draft : Draft) (options : List RawOption) → active_of draft true options ≡ Never → (has_option (codes "tag") options ≡ false) × (has_option (codes "default") options ≡ false)
never_marked draft options e = by (option_named (codes "tag") options) refl (has_option (codes "default") options) refl e
  where
    of_value : (v : Option ℤ) → tag_of v ≢ Never
    of_value None e = cc
    of_value (Some n) e = cc

    by : (o : Option RawOption) → option_named (codes "tag") options ≡ o → (d : Bool) → has_option (codes "default") options ≡ d
        → option_map_or (λ o. tag_of (constant_value draft o.parameter)) o (if d then Other else Never) ≡ Never → (has_option (codes "tag") options ≡ false) × (has_option (codes "default") options ≡ false)
    by None named false d e = (has_is (codes "tag") options ∙ ap is_some named, d)
    by None named true d e = absurd (cc)
    by (Some o) named d default e = absurd (of_value (constant_value draft o.parameter) e)

third : (a b c : Bool) → a ≡ false → b ≡ false → not (a || b || c) ≡ false → c ≡ true
third false false true p q e = refl
third false false false p q e = absurd (cc)
third true b c p q e = absurd (cc)
third false true c p q e = absurd (cc)

skip_unscanned : (draft : Draft) (planes : List Plane) (names : Names) (options : List RawOption) (t : DeclaredType) (type : Ty) → OfField draft planes names options t type → has_skip options ≡ true → is_unscanned type ≡ true
skip_unscanned draft planes names options t type (walked no_skip w) skip = absurd (cc)
skip_unscanned draft planes names options t type (skipped_number s) skip = refl
skip_unscanned draft planes names options t type (skipped_bits s some most) skip = refl
skip_unscanned draft planes names options t type (opaque s) skip = refl

-- a member that is never active is not scanned
pub never_unscanned : (draft : Draft) (planes : List Plane) (ds : DraftStructure) (last : Bool) (df : DraftField) (type : Ty) → ds.is_union ≡ true → FieldFine draft ds last df
    → OfField draft planes (constants draft) df.options df.ty type → active_of draft true df.options ≡ Never → is_unscanned type ≡ true
never_unscanned draft planes ds last df type union fine view e =
    let none = never_marked draft df.options e in
    let unmarked : is_unmarked df.options ≡ false = sym (ap (λ (b : Bool). b && is_unmarked df.options) union) ∙ fine.marked in
    skip_unscanned draft planes (constants draft) df.options df.ty type view (third _ _ (has_skip df.options) none.0 none.1 unmarked)

-- ---- members that are never both active

-- what the options of a member say where it is active so
abbrev Says : Draft → List RawOption → Active → Type 0
Says draft options (Tag v) = tag_value draft options ≡ Some v
Says draft options Other = has_option (codes "default") options ≡ true
Says draft options a = Unit {0}

-- a member whose tag has a value is active as its options say
active_says : (draft : Draft) (options : List RawOption) → ((o : RawOption) → option_named (codes "tag") options ≡ Some o → is_none (constant_value draft o.parameter) ≡ false)
    → Says draft options (active_of draft true options)
active_says draft options valued = by (option_named (codes "tag") options) refl (has_option (codes "default") options) refl
  where
    of_tag : (v : Option ℤ) → tag_value draft options ≡ v → is_none v ≡ false → Says draft options (tag_of v)
    of_tag None is e = absurd (cc)
    of_tag (Some n) is e = is

    by : (tag : Option RawOption) → option_named (codes "tag") options ≡ tag → (d : Bool) → has_option (codes "default") options ≡ d
        → Says draft options (option_map_or (λ o. tag_of (constant_value draft o.parameter)) tag (if d then Other else Never))
    by None named false d = tt
    by None named true d = d
    by (Some o) named d default =
        of_tag (constant_value draft o.parameter) (ap (λ (tag : Option RawOption). option_map_or (λ o. constant_value draft o.parameter) tag None) named) (valued o named)

-- an option that stands there without a fault repeats none
no_repeat : (repeated : Bool) (file : ℕ) (o : Option RawOption) → repeated_fault repeated file o ≡ [] → is_some o ≡ true → repeated ≡ false
no_repeat repeated file None e some = absurd (cc)
no_repeat repeated file (Some o) e some = no_fault repeated DUPLICATE_TAG file o.name.at e

module _ (draft : Draft) where
  -- two members have no tag of one value, and are not both the default
  abbrev Differ : DraftField → DraftField → Type 0
  Differ g f =
      (is_some (option_named (codes "tag") f.options) ≡ true → has_tag draft (tag_value draft f.options) g ≡ false)
      × (is_some (option_named (codes "default") f.options) ≡ true → is_default g ≡ false)

  tagged : (o : Option RawOption) (v : ℤ) → option_map_or (λ o. constant_value draft o.parameter) o None ≡ Some v → is_some o ≡ true
  tagged None v e = absurd (none-some v e)
  tagged (Some o) v e = refl

  apart_of : (g f : DraftField) (b a : Active) → Differ g f → Says draft g.options b → Says draft f.options a → AreApart b a
  apart_of g f (Tag v) (Tag w) differ before here = λ same.
      let apart : same_tag (Some w) (Some v) ≡ false =
      ap (λ (x : Option ℤ). same_tag x (Some v)) (sym here) ∙ ap (λ (x : Option ℤ). same_tag (tag_value draft f.options) x) (sym before)
      ∙ differ.0 (tagged (option_named (codes "tag") f.options) w here) in
      let never : false ≡ true = sym apart ∙ (Decides-int_eq w v).1 (sym same) in cc
  apart_of g f Other Other differ before here =
      let never : false ≡ true = sym (differ.1 (sym (has_is (codes "default") f.options) ∙ here)) ∙ before in absurd (cc)
  apart_of g f b a differ before here = tt

module _ (draft : Draft) (ds : DraftStructure) (union : ds.is_union ≡ true) where
  abbrev act : DraftField → Active
  act f = active_of draft ds.is_union f.options

  abbrev D : DraftField → DraftField → Type 0
  D = Differ draft

  valued_tag : (last : Bool) (f : DraftField) → FieldFine draft ds last f → (o : RawOption) → option_named (codes "tag") f.options ≡ Some o → is_none (constant_value draft o.parameter) ≡ false
  valued_tag last f fine o named =
      let at = found (codes "tag") f.options o named in
      (All-contains (IsFine draft (at_field ds.is_union last f.ty) f.options) f.options o (marker_fine draft (at_field ds.is_union last f.ty) f.options ds.file fine.marker) at.0).valued
      kinds.Tag (ap kind_of at.1) (never_passed (has_skip f.options)) refl
    where
      never_passed : (b : Bool) → (b && false) ≡ false
      never_passed true = refl
      never_passed false = refl

  says_at : (k : ℕ) (f : DraftField) → FieldsFine draft ds ds.fields → slice_get ds.fields k ≡ Some f → Says draft f.options (act f)
  says_at k f fine at =
      let one = fine_at draft ds ds.fields k f fine at in
      subst (λ (u : Bool). Says draft f.options (active_of draft u f.options)) (sym union) (active_says draft f.options (valued_tag one.0 f one.1))

  -- where an option of a member of a union is no such fault, it holds of no member before
  before_none : (p : DraftField → Bool) (before : List DraftField) (o : Option RawOption) → repeated_fault (ds.is_union && list_any p before) ds.file o ≡ [] → is_some o ≡ true
      → All (λ g. p g ≡ false) before
  before_none p before o e some =
      any_none p before (sym (ap (λ (u : Bool). u && list_any p before) union) ∙ no_repeat (ds.is_union && list_any p before) ds.file o e some)

  one_differs : (before : List DraftField) (last : Bool) (f : DraftField) → field_faults draft ds before last f ≡ [] → All (λ g. D g f) before
  one_differs before last f e =
      let repeated = nil_back _ (repeated_faults draft ds.is_union before ds.file f.options) e in λ k d within. (
        λ tag. before_none (has_tag draft (tag_value draft f.options)) before (option_named (codes "tag") f.options) (nil_front _ _ repeated) tag k d within,
        λ default. before_none is_default before (option_named (codes "default") f.options) (nil_back _ _ repeated) default k d within,
      )

  differ_by : (before fs : List DraftField) → fields_faults draft ds before fs ≡ [] → AllPairs D fs × All (λ b. All (D b) fs) before
  unfolding fields_faults
  differ_by before [] e = (pairs_nil D, λ k d within. All-nil (D (get_or before k d)))
  differ_by before (f ∷ fs) e =
      let here = one_differs before (is_empty fs) f (nil_front (field_faults draft ds before (is_empty fs) f) (fields_faults draft ds (before ++ f ∷ []) fs) e) in
      let rest = differ_by (before ++ f ∷ []) fs (nil_back (field_faults draft ds before (is_empty fs) f) (fields_faults draft ds (before ++ f ∷ []) fs) e) in (
        AllPairs-cons D f fs (all_last (λ b. All (D b) fs) before f rest.1) rest.0,
        λ k d within. All-cons (D (get_or before k d)) f fs (here k d within) (all_front (λ b. All (D b) fs) before f rest.1 k d within),
      )

  pub members_apart : FieldsFine draft ds ds.fields → fields_faults draft ds [] ds.fields ≡ [] → AllPairs (λ f g. AreApart (act f) (act g)) ds.fields
  members_apart fine e =
      all_pairs (λ f g. AreApart (act f) (act g)) ds.fields (λ i j g f lower before here.
      apart_of draft g f (act g) (act f) (pairs_at D ds.fields i j g f (differ_by [] ds.fields e).0 lower before here) (says_at i g fine before) (says_at j f fine here))
