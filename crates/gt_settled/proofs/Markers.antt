-- What holds of the options of a marker that has no fault.
use Rattle.std.proofs.Common.{◌≡◌, ◌≢◌, ◌∙◌, ℕ, zero, suc, Bool, true, false, not, ◌||◌, ◌&&◌, cond, List, [], ◌∷◌, ◌++◌, Option, Some, None, refl, sym, ap, subst, get_or, arith}
use Rattle.std.specs.Prelude.{All, AllPairs, Contains, if◌then◌else◌, is_some, is_none}
use Rattle.std.specs.Option.{option_map_or}
use Rattle.std.specs.List.{list_any}
use Rattle.std.specs.Str.{bytes_eq}
use Rattle.std.proofs.lemmas.Option.{none-some, same_Some}
use Rattle.std.proofs.lemmas.List.Elements.{All-nil, All-cons, All-head, All-tail, All-contains}
use Rattle.std.proofs.lemmas.List.Kept.{AllPairs-cons}
use Rattle.std.proofs.lemmas.Slice.Eq.{bytes_eq-Decides}
use Rattle.gt_items.specs.declared.items.RawOption.{RawOption}
use Rattle.gt_drafts.specs.declared.draft.Draft.{Draft}
use Rattle.gt_drafts.specs.Options.{has_option}
use Rattle.gt_drafts.specs.FirstFaults.{fault_if}
use Rattle.gt_drafts.specs.Sameness.{same_bool}
use Rattle.gt_markers.specs.declared.TheConstants.{UNKNOWN_OPTION}
use Rattle.gt_markers.specs.declared.kinds.OptionKind.{OptionKind}
use Rattle.gt_markers.specs.Expressions.{constant_value}
use Rattle.gt_markers.specs.Options.{kind_of, needs_parameter, has_parameter, exclude, option_named}
use Rattle.gt_markers.specs.Sites.{Site, is_passed_over, is_tag, is_ill_formed, is_excluded, stands_among, may_stand, known_faults, option_faults, faults_after, marker_faults}
use Rattle.gt_settled.proofs.Lists.{nil_front, nil_back, no_fault, is_not, in_head, in_tail, pairs_nil, pairs_head, pairs_tail}

-- ---- options by name

found_by : (name : List ℕ) (x : RawOption) (xs : List RawOption) (o : RawOption) (b : Bool) → bytes_eq x.name.word name ≡ b → cond b (Some x) (option_named name xs) ≡ Some o
    → (option_named name xs ≡ Some o → Contains xs o × (o.name.word ≡ name)) → Contains (x ∷ xs) o × (o.name.word ≡ name)
found_by name x xs o true same e rest =
    let is : x ≡ o = same_Some x o e in
    (subst (λ (y : RawOption). Contains (x ∷ xs) y) is (in_head x xs), subst (λ (y : RawOption). y.name.word ≡ name) is ((bytes_eq-Decides x.name.word name).0 same))
found_by name x xs o false same e rest = let more = rest e in (in_tail x xs o more.0, more.1)

-- an option that stands there
pub found : (name : List ℕ) (options : List RawOption) (o : RawOption) → option_named name options ≡ Some o → Contains options o × (o.name.word ≡ name)
found name [] o e = absurd (none-some o e)
found name (x ∷ xs) o e = found_by name x xs o (bytes_eq x.name.word name) refl e (found name xs o)

has_by : (name : List ℕ) (x : RawOption) (xs : List RawOption) (b : Bool) → has_option name xs ≡ is_some (option_named name xs) → (b || has_option name xs) ≡ is_some (cond b (Some x) (option_named name xs))
has_by name x xs true e = refl
has_by name x xs false e = e

pub has_is : (name : List ℕ) (options : List RawOption) → has_option name options ≡ is_some (option_named name options)
has_is name [] = refl
has_is name (x ∷ xs) = has_by name x xs (bytes_eq x.name.word name) (has_is name xs)

-- ---- no faults

-- an option is known, has a parameter where it needs one and no other, and stands where it may, and a tag has a value
pub record IsFine (draft : Draft) (site : Site) (options : List RawOption) (o : RawOption) : Type 0 where
  pub known : is_some (kind_of o.name.word) ≡ true
  pub formed : (kind : OptionKind) → kind_of o.name.word ≡ Some kind → is_passed_over site options kind ≡ false → same_bool (needs_parameter kind) (has_parameter o.parameter) ≡ true
  pub stands : (kind : OptionKind) → kind_of o.name.word ≡ Some kind → is_passed_over site options kind ≡ false → may_stand draft.structures site options kind ≡ true
  pub valued : (kind : OptionKind) → kind_of o.name.word ≡ Some kind → is_passed_over site options kind ≡ false → is_tag kind ≡ true → is_none (constant_value draft o.parameter) ≡ false

-- an option, that is no tag, has another name than one before
abbrev pub AreTwo : Site → List RawOption → RawOption → RawOption → Type 0
AreTwo site options a o =
    (kind : OptionKind) → kind_of o.name.word ≡ Some kind → is_passed_over site options kind ≡ false → is_tag kind ≡ false → a.name.word ≢ o.name.word

-- an option may stand beside one before
abbrev pub AreBeside : Site → List RawOption → RawOption → RawOption → Type 0
AreBeside site options a o =
    (kind : OptionKind) → kind_of o.name.word ≡ Some kind → is_passed_over site options kind ≡ false → option_map_or (exclude kind) (kind_of a.name.word) false ≡ false

if_false : {X : Type 0} (b : Bool) (x y z : X) → b ≡ false → (if b then x else y) ≡ z → y ≡ z
if_false true x y z e is = absurd (cc)
if_false false x y z e is = is

both_true : (a b : Bool) → a ≡ true → (a && b) ≡ false → b ≡ false
both_true true b e is = is
both_true false b e is = absurd (cc)

pub or_first : (a b : Bool) → (a || b) ≡ false → a ≡ false
or_first true b e = absurd (cc)
or_first false b e = refl

pub or_second : (a b : Bool) → (a || b) ≡ false → b ≡ false
or_second true b e = absurd (cc)
or_second false b e = e

twice : (a b c : Bool) → (a || b || c) ≡ false → b ≡ false
twice a b c e = or_second a b (or_first (a || b) c e)

pub any_none : {X : Type 0} (p : X → Bool) (xs : List X) → list_any p xs ≡ false → All (λ x. p x ≡ false) xs
any_none p [] e = All-nil (λ x. p x ≡ false)
any_none p (x ∷ xs) e = All-cons (λ y. p y ≡ false) x xs (or_first (p x) (list_any p xs) e) (any_none p xs (or_second (p x) (list_any p xs) e))

pub all_front : {X : Type 0} (P : X → Type 0) (xs : List X) (y : X) → All P (xs ++ y ∷ []) → All P xs
all_front P [] y all = All-nil P
all_front P (x ∷ xs) y all = All-cons P x xs (All-head P x (xs ++ y ∷ []) all) (all_front P xs y (All-tail P x (xs ++ y ∷ []) all))

pub all_last : {X : Type 0} (P : X → Type 0) (xs : List X) (y : X) → All P (xs ++ y ∷ []) → P y
all_last P [] y all = All-head P y [] all
all_last P (x ∷ xs) y all = all_last P xs y (All-tail P x (xs ++ y ∷ []) all)

module _ (draft : Draft) (site : Site) (options : List RawOption) (file : ℕ) (before : List RawOption) (o : RawOption) where
  -- the four kinds of faults of a known option
  record AreNone (kind : OptionKind) : Type 0 where
    formed : is_ill_formed before o kind ≡ false
    stands : may_stand draft.structures site options kind ≡ true
    valued : (is_tag kind && is_none (constant_value draft o.parameter)) ≡ false

  known : (kind : OptionKind) → known_faults draft site options file before o kind ≡ [] → is_passed_over site options kind ≡ false → AreNone kind
  known kind e passed =
      let all = if_false (is_passed_over site options kind) [] _ [] passed e in
      let e4 = nil_front _ _ all in
      let e3 = nil_front _ _ e4 in
      let e2 = nil_front _ _ e3 in
      record {
        formed = no_fault _ _ _ _ (nil_front _ _ e2);
        stands = is_not _ (no_fault _ _ _ _ (nil_back _ _ e2));
        valued = no_fault _ _ _ _ (nil_back _ _ e4);
      }

  by_kind : (kind : OptionKind) → option_faults draft site options file before o ≡ [] → kind_of o.name.word ≡ Some kind → is_passed_over site options kind ≡ false → AreNone kind
  by_kind kind e is passed =
      known kind (subst (λ (k : Option OptionKind). option_map_or (known_faults draft site options file before o) k (fault_if true UNKNOWN_OPTION file o.name.at) ≡ []) is e) passed

  known_by : (kind : Option OptionKind) → option_map_or (known_faults draft site options file before o) kind (fault_if true UNKNOWN_OPTION file o.name.at) ≡ [] → is_some kind ≡ true
  known_by None e = let never : true ≡ false = no_fault true UNKNOWN_OPTION file o.name.at e in absurd (cc)
  known_by (Some kind) e = refl

  fine_one : option_faults draft site options file before o ≡ [] → IsFine draft site options o
  fine_one e = record {
    known = known_by (kind_of o.name.word) e;
    formed = λ kind is passed.
        is_not _ (or_first _ _ (or_first (not (same_bool (needs_parameter kind) (has_parameter o.parameter)) || (not (is_tag kind) && stands_among before o)) (is_excluded before kind) (by_kind kind e is passed).formed));
    stands = λ kind is passed. (by_kind kind e is passed).stands;
    valued = λ kind is passed tag. both_true (is_tag kind) (is_none (constant_value draft o.parameter)) tag (by_kind kind e is passed).valued;
  }

  -- the options before have other names
  others : option_faults draft site options file before o ≡ [] → All (λ b. AreTwo site options b o) before
  others e k d within kind is passed tag same =
      let formed = (by_kind kind e is passed).formed in
      let among = both_true (not (is_tag kind)) (stands_among before o) (ap not tag) (twice (not (same_bool (needs_parameter kind) (has_parameter o.parameter))) (not (is_tag kind) && stands_among before o) (is_excluded before kind) formed) in
      let never : false ≡ true = sym (any_none (λ (b : RawOption). bytes_eq b.name.word o.name.word) before among k d within) ∙ (bytes_eq-Decides _ o.name.word).1 same in
      cc

  -- the options before exclude it not
  besides : option_faults draft site options file before o ≡ [] → All (λ b. AreBeside site options b o) before
  besides e k d within kind is passed =
      let formed = (by_kind kind e is passed).formed in
      let free = or_second (not (same_bool (needs_parameter kind) (has_parameter o.parameter)) || (not (is_tag kind) && stands_among before o)) (is_excluded before kind) formed in
      any_none (λ (b : RawOption). option_map_or (exclude kind) (kind_of b.name.word) false) before free k d within

module _ (draft : Draft) (site : Site) (options : List RawOption) (file : ℕ) where
  after_fine : (before os : List RawOption) → faults_after draft site options file before os ≡ [] → All (IsFine draft site options) os
  unfolding faults_after
  after_fine before [] e = All-nil (IsFine draft site options)
  after_fine before (o ∷ os) e =
      All-cons (IsFine draft site options) o os
      (fine_one draft site options file before o (nil_front (option_faults draft site options file before o) (faults_after draft site options file (before ++ o ∷ []) os) e))
      (after_fine (before ++ o ∷ []) os (nil_back (option_faults draft site options file before o) (faults_after draft site options file (before ++ o ∷ []) os) e))

  -- what holds of an option and each before it holds of each pair
  module _ (R : RawOption → RawOption → Type 0) (each : (before : List RawOption) (o : RawOption) → option_faults draft site options file before o ≡ [] → All (λ b. R b o) before) where
    after_pairs : (before os : List RawOption) → faults_after draft site options file before os ≡ [] → AllPairs R os × All (λ b. All (R b) os) before
    unfolding faults_after
    after_pairs before [] e = (pairs_nil R, λ k d within. All-nil (R (get_or before k d)))
    after_pairs before (o ∷ os) e =
        let here = each before o (nil_front (option_faults draft site options file before o) (faults_after draft site options file (before ++ o ∷ []) os) e) in
        let rest = after_pairs (before ++ o ∷ []) os (nil_back (option_faults draft site options file before o) (faults_after draft site options file (before ++ o ∷ []) os) e) in (
          AllPairs-cons R o os (all_last (λ b. All (R b) os) before o rest.1) rest.0,
          λ k d within. All-cons (R (get_or before k d)) o os (here k d within) (all_front (λ b. All (R b) os) before o rest.1 k d within),
        )

  pub marker_fine : marker_faults draft site file options ≡ [] → All (IsFine draft site options) options
  marker_fine e = after_fine [] options e

  pub marker_pairs : marker_faults draft site file options ≡ [] → AllPairs (AreTwo site options) options
  marker_pairs e = (after_pairs (AreTwo site options) (others draft site options file) [] options e).0

  pub marker_besides : marker_faults draft site file options ≡ [] → AllPairs (AreBeside site options) options
  marker_besides e = (after_pairs (AreBeside site options) (besides draft site options file) [] options e).0

-- ---- an option that stands once, and two that exclude each other

-- of options that stand once, the one of a name is the one that is read
pub only_one : (name : List ℕ) (xs : List RawOption) (x : RawOption) → AllPairs (λ a b. b.name.word ≡ name → a.name.word ≢ b.name.word) xs → Contains xs x → x.name.word ≡ name
    → option_named name xs ≡ Some x
only_one name [] x pairs (k, within, is) same = absurd (omega (arith, within))
only_one name (y ∷ ys) x pairs (zero, within, is) same =
    let here : bytes_eq y.name.word name ≡ true = (bytes_eq-Decides y.name.word name).1 (ap (λ (z : RawOption). z.name.word) is ∙ same) in
    ap (λ (b : Bool). cond b (Some y) (option_named name ys)) here ∙ ap (λ (z : RawOption). Some z) is
only_one name (y ∷ ys) x pairs (suc k, within, is) same =
    let there : Contains ys x = (k, omega (arith, within), is) in
    let other = All-contains (λ (b : RawOption). b.name.word ≡ name → y.name.word ≢ b.name.word) ys x (pairs_head (λ a b. b.name.word ≡ name → a.name.word ≢ b.name.word) y ys pairs) there in
    let passed : bytes_eq y.name.word name ≡ false = is_no (bytes_eq y.name.word name) (λ e. other same ((bytes_eq-Decides y.name.word name).0 e ∙ sym same)) in
    ap (λ (b : Bool). cond b (Some y) (option_named name ys)) passed ∙ only_one name ys x (pairs_tail (λ a b. b.name.word ≡ name → a.name.word ≢ b.name.word) y ys pairs) there same
  where
    is_no : (b : Bool) → ¬ (b ≡ true) → b ≡ false
    is_no true never = absurd (never refl)
    is_no false never = refl

-- two options that are apart are not both among some of which each two are
pub never_both : (P : RawOption → RawOption → Type 0) (xs : List RawOption) (a b : RawOption) → AllPairs P xs → ¬ P a b → ¬ P b a → a.name.word ≢ b.name.word → Contains xs a → Contains xs b → ⊥
never_both P [] a b pairs one two other (k, within, is) there = omega (arith, within)
never_both P (y ∷ ys) a b pairs one two other (zero, within, is) (zero, inside, at) = other (ap (λ (z : RawOption). z.name.word) (sym is ∙ at))
never_both P (y ∷ ys) a b pairs one two other (zero, within, is) (suc j, inside, at) =
    one (subst (λ (z : RawOption). P z b) is (All-contains (P y) ys b (pairs_head P y ys pairs) (j, omega (arith, inside), at)))
never_both P (y ∷ ys) a b pairs one two other (suc k, within, is) (zero, inside, at) =
    two (subst (λ (z : RawOption). P z a) at (All-contains (P y) ys a (pairs_head P y ys pairs) (k, omega (arith, within), is)))
never_both P (y ∷ ys) a b pairs one two other (suc k, within, is) (suc j, inside, at) =
    never_both P ys a b (pairs_tail P y ys pairs) one two other (k, omega (arith, within), is) (j, omega (arith, inside), at)

-- an option that stands there, and is not passed over, may stand there
pub stands_if : (draft : Draft) (site : Site) (options : List RawOption) (name : List ℕ) (kind : OptionKind) → All (IsFine draft site options) options → kind_of name ≡ Some kind
    → is_passed_over site options kind ≡ false → has_option name options ≡ true → may_stand draft.structures site options kind ≡ true
stands_if draft site options name kind fine is passed has = by (option_named name options) refl
  where
    by : (o : Option RawOption) → option_named name options ≡ o → may_stand draft.structures site options kind ≡ true
    by None e = let never : true ≡ false = sym has ∙ has_is name options ∙ ap is_some e in absurd (cc)
    by (Some o) e =
        let f = found name options o e in
        (All-contains (IsFine draft site options) options o fine f.0).stands kind (ap kind_of f.1 ∙ is) passed
