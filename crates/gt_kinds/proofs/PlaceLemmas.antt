-- What names find.
use Rattle.std.proofs.Common.{◌≡◌, ◌∙◌, ℕ, ◌+◌, Bool, true, false, cond, List, [], ◌∷◌, Option, Some, None, refl, sym, ap}
use Rattle.std.specs.Prelude.{if◌then◌else◌}
use Rattle.std.specs.List.{position_from}
use Rattle.std.specs.Str.{bytes_eq}
use Rattle.gt_names.specs.declared.tables.Entry.{Entry}
use Rattle.gt_names.specs.Entries.{value_in, with_value, first_some}
use Rattle.gt_names.proofs.TableLemmas.{value_with, first_assoc, none_first}
use Rattle.gt_kinds.specs.Places.{places_from}

place_first : (b : Bool) (k : ℕ) (o : Option ℕ) → first_some (if b then Some k else None) o ≡ cond b (Some k) o
place_first true k o = refl
place_first false k o = refl

-- the names of things after others, as they are looked up
places_found : {T : Type 0} (called : T → List ℕ) (es : List (Entry ℕ)) (k : ℕ) (ts : List T) (word : List ℕ)
    → value_in (places_from called es k ts) word ≡ first_some (value_in es word) (position_from (λ t. bytes_eq (called t) word) k ts)
unfolding places_from
places_found called es k [] word = sym (none_first (value_in es word))
places_found called es k (t ∷ ts) word =
    places_found called (with_value es (called t) k) (k + 1) ts word
    ∙ ap (λ o. first_some o (position_from (λ t. bytes_eq (called t) word) (k + 1) ts)) (value_with es (called t) k word)
    ∙ first_assoc (value_in es word) (if bytes_eq (called t) word then Some k else None) (position_from (λ t. bytes_eq (called t) word) (k + 1) ts)
    ∙ ap (first_some (value_in es word)) (place_first (bytes_eq (called t) word) k (position_from (λ t. bytes_eq (called t) word) (k + 1) ts))

-- a name has the place of the first thing of this name
pub name_found : {T : Type 0} (called : T → List ℕ) (made : List (Entry ℕ)) (ts : List T) → made ≡ places_from called [] 0 ts → (word : List ℕ)
    → value_in made word ≡ position_from (λ t. bytes_eq (called t) word) 0 ts
name_found called made ts is word = ap (λ es. value_in es word) is ∙ places_found called [] 0 ts word
