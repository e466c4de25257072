-- Whether a name is among names.
use Rattle.std.proofs.Common.{◌≡◌, ◌∙◌, ℕ, Bool, true, false, List, [], ◌∷◌, ◌++◌, refl, sym, ap}
use Rattle.std.specs.Prelude.{◌||◌, if◌then◌else◌}
use Rattle.std.specs.List.{list_any}
use Rattle.std.specs.Str.{bytes_eq}
use Rattle.std.proofs.lemmas.List.Folds.{list_any-append}
use Rattle.std.proofs.lemmas.Slice.Eq.{bytes_eq-Decides}
use Rattle.gt_names.specs.Lists.{with_name}

-- the name is among the names
abbrev pub is_among : List ℕ → List (List ℕ) → Bool
is_among word names = list_any (λ name. bytes_eq name word) names

or_false : (b : Bool) → (b || false) ≡ b
or_false true = refl
or_false false = refl

or_absorbs : (a b : Bool) → (b ≡ true → a ≡ true) → (a || b) ≡ a
or_absorbs true b h = refl
or_absorbs false true h = sym (h refl)
or_absorbs false false h = refl

if_added : (b : Bool) (w v : List ℕ) (names : List (List ℕ)) → b ≡ is_among v names → is_among w (if b then names else names ++ v ∷ []) ≡ (is_among w names || bytes_eq v w)
if_added true w v names e =
    sym (or_absorbs (is_among w names) (bytes_eq v w) (λ same. ap (λ u. is_among u names) (sym ((bytes_eq-Decides v w).0 same)) ∙ sym e))
if_added false w v names e =
    list_any-append (λ name. bytes_eq name w) names (v ∷ []) ∙ ap (λ b. is_among w names || b) (or_false (bytes_eq v w))

-- what is among the names when one is added
is_among_with_name : (w v : List ℕ) (names : List (List ℕ)) → is_among w (with_name names v) ≡ (is_among w names || bytes_eq v w)
is_among_with_name w v names = if_added (is_among v names) w v names refl

is_among_added : (w v : List ℕ) (names : List (List ℕ)) → is_among w (names ++ v ∷ []) ≡ (is_among w names || bytes_eq v w)
is_among_added w v names = list_any-append (λ name. bytes_eq name w) names (v ∷ []) ∙ ap (λ b. is_among w names || b) (or_false (bytes_eq v w))

-- one more name among all and among the distinct
pub among_more : (w : List ℕ) (before names more : List (List ℕ)) (v : List ℕ) → is_among w before ≡ is_among w names → more ≡ with_name names v
    → is_among w (before ++ v ∷ []) ≡ is_among w more
among_more w before names more v same e =
    is_among_added w v before ∙ ap (λ b. b || bytes_eq v w) same ∙ sym (is_among_with_name w v names) ∙ ap (is_among w) (sym e)
