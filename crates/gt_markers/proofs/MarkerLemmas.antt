-- The faults of an option.
use Rattle.std.proofs.Common.{◌≡◌, ◌∙◌, ℕ, ◌+◌, ◌<◌, ◌≤◌, Bool, true, false, List, [], ◌∷◌, ◌++◌, length, get_or, take, drop, Option, Some, None, refl, sym, ap}
use Rattle.std.specs.Prelude.{◌&&◌, not, is_none, if◌then◌else◌}
use Rattle.std.specs.Option.{option_map_or}
use Rattle.std.proofs.lemmas.List.{take_more, drop_more, drop_all}
use Rattle.gt_types.specs.declared.faults.Fault.{Fault}
use Rattle.gt_items.specs.declared.items.RawOption.{RawOption}
use Rattle.gt_drafts.specs.declared.draft.Draft.{Draft}
use Rattle.gt_drafts.specs.FirstFaults.{fault_if, first_from}
use Rattle.gt_markers.specs.declared.TheConstants.{UNKNOWN_OPTION, WRONG_PLACE, DUPLICATE_TAG, BAD_PATH, UNKNOWN_HOOK}
use Rattle.gt_markers.specs.declared.kinds.OptionKind.{OptionKind}
use Rattle.gt_markers.specs.Expressions.{constant_value}
use Rattle.gt_markers.specs.Sites.{Site, is_tag, stands_among, is_unknown_hook, is_ill_formed, is_passed_over, known_faults, option_faults, faults_after, may_stand, wrong_number}
use Rattle.gt_markers.proofs.Firsts.{first_from_both, first_from_nil}

-- one more option
pub options_taken_more : (i : ℕ) (options : List RawOption) (o : RawOption) → i < length options → o ≡ get_or options i o → take (i + 1) options ≡ take i options ++ o ∷ []
options_taken_more i options o l is = take_more options i o l ∙ ap (λ (x : RawOption). take i options ++ x ∷ []) (sym is)

-- the faults of an option that is not passed over
abbrev pub counted_faults : Draft → Site → List RawOption → ℕ → List RawOption → RawOption → OptionKind → List Fault
counted_faults draft site options file before o kind =
    fault_if (is_ill_formed before o kind) WRONG_PLACE file o.name.at
    ++ fault_if (not (may_stand draft.structures site options kind)) (wrong_number site kind) file o.name.at
    ++ fault_if (is_tag kind && stands_among before o) DUPLICATE_TAG file o.name.at
    ++ fault_if (is_tag kind && is_none (constant_value draft o.parameter)) BAD_PATH file o.name.at
    ++ fault_if (is_unknown_hook kind o.parameter) UNKNOWN_HOOK file o.name.at

pub known_counted : (draft : Draft) (site : Site) (options : List RawOption) (file : ℕ) (before : List RawOption) (o : RawOption) (kind : OptionKind)
    → is_passed_over site options kind ≡ false → known_faults draft site options file before o kind ≡ counted_faults draft site options file before o kind
known_counted draft site options file before o kind h = ap (λ (b : Bool). if b then [] else counted_faults draft site options file before o kind) h

pub known_passed : (draft : Draft) (site : Site) (options : List RawOption) (file : ℕ) (before : List RawOption) (o : RawOption) (kind : OptionKind)
    → is_passed_over site options kind ≡ true → known_faults draft site options file before o kind ≡ []
known_passed draft site options file before o kind h = ap (λ (b : Bool). if b then [] else counted_faults draft site options file before o kind) h

-- the faults of an option by what its name is
pub known_too : (draft : Draft) (site : Site) (options : List RawOption) (file : ℕ) (before : List RawOption) (o : RawOption) (kind : OptionKind) (found : Option OptionKind) → found ≡ Some kind
    → known_faults draft site options file before o kind ≡ option_map_or (known_faults draft site options file before o) found (fault_if true UNKNOWN_OPTION file o.name.at)
known_too draft site options file before o kind found is =
    ap (λ (k : Option OptionKind). option_map_or (known_faults draft site options file before o) k (fault_if true UNKNOWN_OPTION file o.name.at)) (sym is)

pub unknown_too : (draft : Draft) (site : Site) (options : List RawOption) (file : ℕ) (before : List RawOption) (o : RawOption) (found : Option OptionKind) → found ≡ None
    → fault_if true UNKNOWN_OPTION file o.name.at ≡ option_map_or (known_faults draft site options file before o) found (fault_if true UNKNOWN_OPTION file o.name.at)
unknown_too draft site options file before o found is =
    ap (λ (k : Option OptionKind). option_map_or (known_faults draft site options file before o) k (fault_if true UNKNOWN_OPTION file o.name.at)) (sym is)

-- an option that is passed over has no faults
pub passed : (draft : Draft) (site : Site) (options : List RawOption) (file : ℕ) (before : List RawOption) (o : RawOption) (kind : OptionKind) (found : Option OptionKind) (e : Option Fault)
    → found ≡ Some kind → is_passed_over site options kind ≡ true
    → e ≡ first_from e (option_map_or (known_faults draft site options file before o) found (fault_if true UNKNOWN_OPTION file o.name.at))
passed draft site options file before o kind found e is h =
    sym (first_from_nil e) ∙ ap (first_from e) (sym (known_passed draft site options file before o kind h))
    ∙ ap (λ (k : Option OptionKind). first_from e (option_map_or (known_faults draft site options file before o) k (fault_if true UNKNOWN_OPTION file o.name.at))) (sym is)

module _ (draft : Draft) (site : Site) (file : ℕ) where
  -- the faults of the options from one on
  abbrev pub rest_faults : ℕ → List RawOption → List Fault
  rest_faults i options = faults_after draft site options file (take i options) (drop i options)

  -- one more option
  pub first_from_option : (e e1 : Option Fault) (i : ℕ) (options : List RawOption) (o : RawOption) → i < length options → o ≡ get_or options i o
      → e1 ≡ first_from e (option_faults draft site options file (take i options) o) → first_from e1 (rest_faults (i + 1) options) ≡ first_from e (rest_faults i options)
  unfolding faults_after
  first_from_option e e1 i options o l is h =
      let rest = drop (i + 1) options in
      let item : drop i options ≡ o ∷ rest = drop_more options i o l ∙ ap (λ (x : RawOption). x ∷ rest) (sym is) in
      ap (λ (os : List RawOption). first_from e1 (faults_after draft site options file os rest)) (options_taken_more i options o l is)
      ∙ first_from_both e e1 (first_from e1 (faults_after draft site options file (take i options ++ o ∷ []) rest)) (option_faults draft site options file (take i options) o)
      (faults_after draft site options file (take i options ++ o ∷ []) rest) h refl
      ∙ ap (λ (os : List RawOption). first_from e (faults_after draft site options file (take i options) os)) (sym item)

  -- after the last option
  pub first_from_options : (e : Option Fault) (i : ℕ) (options : List RawOption) → length options ≤ i → e ≡ first_from e (rest_faults i options)
  unfolding faults_after
  first_from_options e i options l =
      sym (first_from_nil e) ∙ ap (λ (os : List RawOption). first_from e (faults_after draft site options file (take i options) os)) (sym (drop_all i options l))
