-- What lookups of names find.
use Rattle.std.proofs.Common.{◌≡◌, ◌∙◌, ℕ, ◌+◌, ◌<◌, ℤ, Bool, true, false, cond, List, [], ◌∷◌, length, Option, Some, None, refl, sym, ap, get_or, drop}
use Rattle.std.specs.Prelude.{◌&&◌, if◌then◌else◌, find, option_map}
use Rattle.std.specs.List.{position_from}
use Rattle.std.specs.Str.{bytes_eq}
use Rattle.std.proofs.lemmas.List.{drop_more}
use Rattle.gt_names.specs.declared.tables.Entry.{Entry}
use Rattle.gt_names.specs.Entries.{value_in, with_value, first_some}
use Rattle.gt_names.proofs.TableLemmas.{value_with, first_assoc, none_first}
use Rattle.gt_drafts.specs.declared.draft.DraftConstant.{DraftConstant}
use Rattle.gt_drafts.specs.declared.draft.DraftRoot.{DraftRoot}
use Rattle.gt_markers.specs.Expressions.{is_scalar}
use Rattle.gt_markers.specs.Lookups.{constants_from, roots_from, with_root}

-- ---- constants

found_first : (b : Bool) (c : DraftConstant) (o : Option DraftConstant)
    → first_some (if b then Some c.value else None) (option_map (λ c. c.value) o) ≡ option_map (λ c. c.value) (if b then Some c else o)
found_first true c o = refl
found_first false c o = refl

-- the constants after others, as they are looked up
constants_found : (es : List (Entry ℤ)) (cs : List DraftConstant) (word : List ℕ)
    → value_in (constants_from es cs) word ≡ first_some (value_in es word) (option_map (λ c. c.value) (find (λ c. bytes_eq c.name word) cs))
unfolding constants_from
constants_found es [] word = sym (none_first (value_in es word))
constants_found es (c ∷ cs) word =
    constants_found (with_value es c.name c.value) cs word
    ∙ ap (λ o. first_some o (option_map (λ c. c.value) (find (λ c. bytes_eq c.name word) cs))) (value_with es c.name c.value word)
    ∙ first_assoc (value_in es word) (if bytes_eq c.name word then Some c.value else None) (option_map (λ c. c.value) (find (λ c. bytes_eq c.name word) cs))
    ∙ ap (first_some (value_in es word)) (found_first (bytes_eq c.name word) c (find (λ c. bytes_eq c.name word) cs))

pub constants_are : (es : List (Entry ℤ)) (cs : List DraftConstant) (word : List ℕ) → es ≡ constants_from [] cs
    → value_in es word ≡ option_map (λ c. c.value) (find (λ c. bytes_eq c.name word) cs)
constants_are es cs word made = ap (λ es. value_in es word) made ∙ constants_found [] cs word

-- one more constant
pub constants_more : (es made : List (Entry ℤ)) (cs : List DraftConstant) (i : ℕ) (c : DraftConstant) → i < length cs → c ≡ get_or cs i c
    → made ≡ with_value es c.name c.value → constants_from made (drop (i + 1) cs) ≡ constants_from es (drop i cs)
unfolding constants_from
constants_more es made cs i c h at m =
    ap (λ m. constants_from m (drop (i + 1) cs)) m
    ∙ sym (ap (constants_from es) (drop_more cs i c h ∙ ap (λ x. x ∷ drop (i + 1) cs) (sym at)))

-- ---- roots

and_true : (a : Bool) → (a && true) ≡ a
and_true true = refl
and_true false = refl

and_false : (a : Bool) → (a && false) ≡ false
and_false true = refl
and_false false = refl

root_case : (es : List (Entry ℕ)) (name word : List ℕ) (k : ℕ) (b : Bool)
    → value_in (if b then with_value es name k else es) word ≡ first_some (value_in es word) (if bytes_eq name word && b then Some k else None)
root_case es name word k true = value_with es name k word ∙ ap (λ c. first_some (value_in es word) (if c then Some k else None)) (sym (and_true (bytes_eq name word)))
root_case es name word k false =
    sym (none_first (value_in es word)) ∙ ap (λ c. first_some (value_in es word) (if c then Some k else None)) (sym (and_false (bytes_eq name word)))

place_first : (b : Bool) (k : ℕ) (o : Option ℕ) → first_some (if b then Some k else None) o ≡ cond b (Some k) o
place_first true k o = refl
place_first false k o = refl

-- the roots after others, as they are looked up
roots_found : (es : List (Entry ℕ)) (k : ℕ) (rs : List DraftRoot) (word : List ℕ)
    → value_in (roots_from es k rs) word ≡ first_some (value_in es word) (position_from (λ r. bytes_eq r.name.word word && is_scalar r) k rs)
unfolding roots_from
roots_found es k [] word = sym (none_first (value_in es word))
roots_found es k (r ∷ rs) word =
    roots_found (with_root es k r) (k + 1) rs word
    ∙ ap (λ o. first_some o (position_from (λ r. bytes_eq r.name.word word && is_scalar r) (k + 1) rs)) (root_case es r.name.word word k (is_scalar r))
    ∙ first_assoc (value_in es word) (if bytes_eq r.name.word word && is_scalar r then Some k else None) (position_from (λ r. bytes_eq r.name.word word && is_scalar r) (k + 1) rs)
    ∙ ap (first_some (value_in es word)) (place_first (bytes_eq r.name.word word && is_scalar r) k (position_from (λ r. bytes_eq r.name.word word && is_scalar r) (k + 1) rs))

pub roots_are : (es : List (Entry ℕ)) (rs : List DraftRoot) (word : List ℕ) → es ≡ roots_from [] 0 rs
    → value_in es word ≡ position_from (λ r. bytes_eq r.name.word word && is_scalar r) 0 rs
roots_are es rs word made = ap (λ es. value_in es word) made ∙ roots_found [] 0 rs word
