-- Each name of a typedef has a meaning.
use Rattle.std.proofs.Common.{◌≡◌, ℕ, List, [], ◌∷◌, Option, Some, None, refl, ap, inl, inr}
use Rattle.std.specs.Prelude.{◌⊎◌, All, map}
use Rattle.std.proofs.lemmas.List.Elements.{All-nil, All-cons}
use Rattle.gt_scope.specs.declared.declaration.Declaration.{Declaration}
use Rattle.gt_scope.specs.declared.meaning.TypedefMeaning.{TypedefMeaning}
use Rattle.gt_drafts.specs.declared.types.Resolved.{Resolved}
use Rattle.gt_scope.specs.Meanings.{AreTypeNames, IsMeaning, follow, opaque, typedef_names}
use Rattle.gt_exists.proofs.NotNot.{NotNot, holds, and_then, either}

none_where_no : (found : Option Resolved) → ((m : Resolved) → found ≡ Some m → ⊥) → found ≡ None
none_where_no None never = refl
none_where_no (Some m) never = absurd (never m refl)

module _ (ds : List Declaration) where
  -- following a name comes to an end
  abbrev Ends : List ℕ → Type 0
  Ends word = (steps : ℕ) × (m : Resolved) × (follow ds steps word ≡ Some m)

  meaning_by : (word : List ℕ) → Ends word ⊎ (Ends word → ⊥) → (m : Resolved) × IsMeaning ds word m
  meaning_by word (inl (steps, m, is)) = (m, inl (steps, is))
  meaning_by word (inr never) = (opaque, inr (λ steps. none_where_no (follow ds steps word) (λ m is. never (steps, m, is)), refl))

  meaning_of : (word : List ℕ) → NotNot ((m : Resolved) × IsMeaning ds word m)
  meaning_of word = and_then either (λ ends. holds (meaning_by word ends))

  -- names, each with its meaning
  abbrev AreMeant : List (List ℕ) → Type 0
  AreMeant names = (types : List TypedefMeaning) × (map (λ t. t.name) types ≡ names) × All (λ t. IsMeaning ds t.name t.means) types

  meant_more : (word : List ℕ) (names : List (List ℕ)) → (m : Resolved) × IsMeaning ds word m → AreMeant names → AreMeant (word ∷ names)
  meant_more word names (m, means) (types, named, meant) = (
    record { name = word; means = m } ∷ types,
    ap (λ (ns : List (List ℕ)). word ∷ ns) named,
    All-cons (λ t. IsMeaning ds t.name t.means) (record { name = word; means = m }) types means meant,
  )

  meant : (names : List (List ℕ)) → NotNot (AreMeant names)
  meant [] = holds ([], refl, All-nil (λ t. IsMeaning ds t.name t.means))
  meant (word ∷ names) = and_then (meaning_of word) (λ m. and_then (meant names) (λ rest. holds (meant_more word names m rest)))

  pub type_names : NotNot ((types : List TypedefMeaning) × AreTypeNames ds types)
  type_names = and_then (meant (typedef_names [] ds)) (λ are. holds (are.0, record { names = are.1; meanings = are.2 }))
