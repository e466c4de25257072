-- Lists that rise, and one more item at its place.
use Rattle.std.proofs.Common.{◌≡◌, ℕ, suc, zero, ◌+◌, ◌<◌, true, false, cond, Bool, List, [], ◌∷◌, refl, ap, sym, subst, ◌∙◌, inl, inr, arith, Some, nat_lt}
use Rattle.std.specs.Prelude.{AllPairs, Contains, slice_get}
use Rattle.std.proofs.lemmas.Bool.{ltb-true, cases_lt, lt-ltb}
use Rattle.std.proofs.lemmas.List.Elements.{All-contains}
use Rattle.gt_pages.specs.Ledger.{insert_by}
use Rattle.gt_objects.proofs.Filtered.{rising_pairs}
use Rattle.gt_objects.proofs.Inserted.{inserted, new_cases}
use Rattle.gt_objects.proofs.Items.{first_there, later_there, none_there, pairs_head, pairs_tail, there_cases}

module _ {X : Type 0} (key : X → ℕ) where
  -- each item is below all later ones
  abbrev pub Climbs : List X → Type 0
  Climbs [] = Unit {0}
  Climbs (x ∷ xs) = ((y : X) → Contains xs y → key x < key y) × Climbs xs

  climbs_from_pairs : (xs : List X) → AllPairs (λ x y. key x < key y) xs → Climbs xs
  climbs_from_pairs [] pairs = tt
  climbs_from_pairs (x ∷ xs) pairs =
      ((λ y there. All-contains (λ y. key x < key y) xs y (pairs_head (λ x y. key x < key y) x xs pairs) there), climbs_from_pairs xs (pairs_tail (λ x y. key x < key y) x xs pairs))

  pub climbs_from_index : (xs : List X) → ((i : ℕ) (x y : X) → slice_get xs i ≡ Some x → slice_get xs (i + 1) ≡ Some y → key x < key y) → Climbs xs
  climbs_from_index xs rises = climbs_from_pairs xs (rising_pairs key xs rises)

  pub climbs_by_index : (xs : List X) → Climbs xs → (i : ℕ) (x y : X) → slice_get xs i ≡ Some x → slice_get xs (i + 1) ≡ Some y → key x < key y
  climbs_by_index [] climbs i x y at next = absurd (cc)
  climbs_by_index (z ∷ []) climbs i x y at next = let one : i + 1 ≡ suc i = omega arith in let none : slice_get (z ∷ []) (suc i) ≡ Some y = sym (ap (slice_get (z ∷ [])) one) ∙ next in absurd (cc)
  climbs_by_index (z ∷ w ∷ xs) climbs zero x y at next =
      let first : z ≡ x = cc in
      let second : w ≡ y = cc in
      subst (λ v. key v < key y) first (subst (λ v. key z < key v) second (climbs.0 w (first_there w xs)))
  climbs_by_index (z ∷ w ∷ xs) climbs (suc i) x y at next =
      let one : suc i + 1 ≡ suc (i + 1) = omega arith in
      climbs_by_index (w ∷ xs) climbs.1 i x y at (sym (ap (slice_get (z ∷ w ∷ xs)) one) ∙ next)

  pub climbs_inserted : (x : X) (ys : List X) → ((y : X) → Contains ys y → key y ≡ key x → ⊥) → Climbs ys → Climbs (insert_by key x ys)
  climbs_inserted x [] new climbs = ((λ y there. none_there y there), tt)
  climbs_inserted x (y ∷ ys) new climbs = by (nat_lt (key x) (key y)) refl (climbs_inserted x ys (λ z there. new z (later_there y ys z there)) climbs.1)
    where
      below : nat_lt (key x) (key y) ≡ true → (z : X) → Contains (y ∷ ys) z → key x < key z
      below low z there =
          let less = ltb-true (key x) (key y) low in
          elim (there_cases y ys z there) as (λ _. key x < key z) [
            | inl same ↦ subst (λ v. key x < key v) same less
            | inr later ↦ let more = climbs.0 z later in omega (arith, less, more)
          ]

      above : nat_lt (key x) (key y) ≡ false → key y < key x
      above high = elim (cases_lt (key y) (key x)) as (λ _. key y < key x) [
        | inl less ↦ less
        | inr least ↦ elim (cases_lt (key x) (key y)) as (λ _. key y < key x) [
          | inl less ↦ let no = lt-ltb (key x) (key y) less in absurd (cc)
          | inr most ↦ absurd (new y (first_there y ys) (omega (arith, least, most)))
        ]
      ]

      by : (b : Bool) → nat_lt (key x) (key y) ≡ b → Climbs (insert_by key x ys) → Climbs (cond (nat_lt (key x) (key y)) (x ∷ y ∷ ys) (y ∷ insert_by key x ys))
      by true low rest = subst (λ b. Climbs (cond b (x ∷ y ∷ ys) (y ∷ insert_by key x ys))) (sym low) (below low, climbs)
      by false high rest = subst (λ b. Climbs (cond b (x ∷ y ∷ ys) (y ∷ insert_by key x ys))) (sym high) (
        (λ z there. elim (new_cases x ys (insert_by key x ys) (inserted key x ys) z there) as (λ _. key y < key z) [
          | inl same ↦ subst (λ v. key y < key v) same (above high)
          | inr before ↦ climbs.0 z before
        ]),
        rest,
      )
