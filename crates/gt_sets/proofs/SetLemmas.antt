-- What sets have, word by word.
use Rattle.std.proofs.Common.{◌≡◌, ◌⊎◌, ◌↔◌, ℕ, suc, ◌/◌, ◌%◌, ◌<◌, ◌≤◌, ◌==◌, true, List, length, max, get_or, set, replicate, inl, inr, refl, sym, ap, ap₂, subst, ◌∙◌, arith, rules, eq-eqb}
use Rattle.std.specs.Prelude.{bit_or}
use Rattle.std.specs.Int.{bit_at}
use Rattle.std.proofs.lemmas.Bool.{eqb-true, cases_eq, cases_lt}
use Rattle.std.proofs.lemmas.List.{get_or-set_same, get_or-set_other, get_or_past, get_or-replicate, length-replicate}
use Rattle.std.proofs.lemmas.Nat.Bits.{bit_at-zero, bit_at_or, bit_at-lt}
use Rattle.gt_sets.specs.Sets.{IsIn}

-- the greater of two bits is set where one of them is
max-bit : (a b : ℕ) → a < 2 → b < 2 → (max a b == 1) ≡ true ↔ (((a == 1) ≡ true) ⊎ ((b == 1) ≡ true))
max-bit a b low less = elim (cases_eq a 1) [
  | inl e ↦ (λ _. inl (eq-eqb a 1 e), λ _. eq-eqb (max a b) 1 (omega (arith, e, less)))
  | inr n ↦ (
    λ h. inr (eq-eqb b 1 (omega (arith, eqb-true (max a b) 1 h, n, low, less))),
    λ either. elim either [
      | inl h ↦ absurd (n (eqb-true a 1 h))
      | inr h ↦ eq-eqb (max a b) 1 (omega (arith, eqb-true b 1 h, low))
    ],
  )
]

-- each word below k is joined with that of others, and no word from k on is changed
pub record AreJoined (old others new : List ℕ) (k : ℕ) : Type 0 where
  pub len : length new ≡ length old
  pub below : (n : ℕ) → n < k → get_or new n 0 ≡ bit_or (get_or old n 0) (get_or others n 0)
  pub above : (n : ℕ) → k ≤ n → get_or new n 0 ≡ get_or old n 0

pub joined-none : (old others : List ℕ) → AreJoined old others old 0
joined-none old others = record { len = refl; below = λ n low. absurd (omega (arith, low)); above = λ n _. refl }

pub joined-next : (old others words : List ℕ) (k : ℕ) → AreJoined old others words k → k < length words
    → AreJoined old others (set words k (bit_or (get_or words k 0) (get_or others k 0))) (suc k)
joined-next old others words k are within = record {
  len = search (rules, are.len);
  below = λ n low. elim (cases_eq n k) [
    | inl e ↦ subst (λ m. get_or (set words k (bit_or (get_or words k 0) (get_or others k 0))) m 0 ≡ bit_or (get_or old m 0) (get_or others m 0)) (sym e)
        (get_or-set_same words k _ 0 within ∙ ap (λ w. bit_or w (get_or others k 0)) (are.above k (omega arith)))
    | inr other ↦ get_or-set_other words k n _ 0 other ∙ are.below n (omega (arith, low, other))
  ];
  above = λ n high. get_or-set_other words k n _ 0 (λ e. absurd (omega (arith, high, e))) ∙ are.above n (omega (arith, high));
}

-- where all words are joined, a number is in the new set where it is in either
pub joined-in : (old others new : List ℕ) → AreJoined old others new (length old) → length old ≡ length others → (i : ℕ) → IsIn new i ↔ (IsIn old i ⊎ IsIn others i)
joined-in old others new are same i =
    let bit = max-bit (bit_at (get_or old (i / 64) 0) (i % 64)) (bit_at (get_or others (i / 64) 0) (i % 64)) (bit_at-lt _ _) (bit_at-lt _ _) in
    subst (λ x. (x == 1) ≡ true ↔ (IsIn old i ⊎ IsIn others i)) (sym (ap (λ w. bit_at w (i % 64)) word ∙ bit_at_or _ _ _)) bit
  where
    word : get_or new (i / 64) 0 ≡ bit_or (get_or old (i / 64) 0) (get_or others (i / 64) 0)
    word = elim (cases_lt (i / 64) (length old)) [
      | inl low ↦ are.below (i / 64) low
      | inr past ↦ are.above (i / 64) past ∙ get_or_past old (i / 64) 0 past
          ∙ sym (ap₂ bit_or (get_or_past old (i / 64) 0 past) (get_or_past others (i / 64) 0 (omega (arith, past, same))))
    ]

-- no number is in a set of words that are 0
pub none-in : (words : List ℕ) → ((n : ℕ) → get_or words n 0 ≡ 0) → (i : ℕ) → ¬ IsIn words i
none-in words zeros i h =
    let set : bit_at (get_or words (i / 64) 0) (i % 64) ≡ 1 = eqb-true (bit_at (get_or words (i / 64) 0) (i % 64)) 1 h in
    let clear : bit_at (get_or words (i / 64) 0) (i % 64) ≡ 0 = ap (λ w. bit_at w (i % 64)) (zeros (i / 64)) ∙ bit_at-zero (i % 64) in
    absurd (omega (arith, set, clear))

-- each of so many words that are equal is this word
pub words-at : (n k word : ℕ) → get_or (replicate n word) k word ≡ word
words-at n k word = elim (cases_lt k n) [
  | inl low ↦ get_or-replicate n k word word low
  | inr past ↦ get_or_past (replicate n word) k word (subst (λ m. m ≤ k) (sym (length-replicate n word)) past)
]
