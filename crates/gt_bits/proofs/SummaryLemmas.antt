-- What a summary says of the words of a set, and what it says after a change.
use Rattle.std.proofs.Common.{◌≡◌, ◌≢◌, ℕ, ◌+◌, ◌*◌, ◌/◌, ◌%◌, ◌^◌, ◌<◌, ◌≤◌, ◌↔◌, true, false, List, length, get_or, Option, Some, None, refl, sym, ap, ◌∙◌, inl, inr, arith, w64}
use Rattle.std.proofs.lemmas.Bool.{cases_eq, cases_lt, cases_Bool, false≢true}
use Rattle.std.proofs.lemmas.Nat.Bits.{bit_at-zero, bit_at-trailing_zeros}
use Rattle.std.specs.Int.{bit_at, trailing_zeros}
use Rattle.gt_bits.specs.Sets.{has, HoldsNone, IsNext}
use Rattle.gt_bits.specs.Summaries.{HasSome, IsSummary}
use Rattle.gt_bits.proofs.SetLemmas.{has_at}

-- a word that is zero has no number
pub none_in_zero : (words : List ℕ) (k : ℕ) → get_or words k 0 ≡ 0 → HasSome words k → ⊥
none_in_zero words k zero some =
    let clear = ap (λ x. bit_at x (some.0 % 64)) zero ∙ bit_at-zero (some.0 % 64) in
    false≢true (sym (has_at words some.0 k (some.0 % 64) 0 some.1 refl clear) ∙ some.2)

-- another word has one
pub some_in_word : (words : List ℕ) (k : ℕ) → get_or words k 0 < 2 ^ 64 → 0 < get_or words k 0 → HasSome words k
some_in_word words k fits some =
    let lowest = bit_at-trailing_zeros w64 (get_or words k 0) some fits in
    let bit : ℕ = trailing_zeros w64 (get_or words k 0) in
    let word : (64 * k + bit) / 64 ≡ k = omega (arith, lowest.0) in
    let place : (64 * k + bit) % 64 ≡ bit = omega (arith, lowest.0) in
    (64 * k + bit, word, has_at words (64 * k + bit) k bit 1 word place lowest.1)

-- a change of one number leaves the other words as they are
some_kept : (words new : List ℕ) (i k other : ℕ) → i / 64 ≡ k → ((j : ℕ) → j ≢ i → has new j ≡ has words j) → other ≢ k → HasSome words other → HasSome new other
some_kept words new i k other word others apart some =
    (some.0, some.1, others some.0 (λ same. apart (sym some.1 ∙ ap (λ x. x / 64) same ∙ word)) ∙ some.2)

-- a set and its summary after a change of number i, which is of word k
pub record Changed (words new : List ℕ) (i : ℕ) : Type 0 where
  pub len : length new ≡ length words
  pub others : (j : ℕ) → j ≢ i → has new j ≡ has words j

pub IsSummary-changed : (words summary new new_summary : List ℕ) (i k : ℕ) → i / 64 ≡ k → IsSummary words summary → Changed words new i → Changed summary new_summary k
    → (has new_summary k ≡ true ↔ HasSome new k) → IsSummary new new_summary
IsSummary-changed words summary new new_summary i k word is set above here = record {
  len = let before = is.len in let low = set.len in let high = above.len in omega (arith, before, low, high);
  each = λ other. elim (cases_eq other k) [
    | inl same ↦ (
      λ held. let some = here.0 (sym (ap (has new_summary) same) ∙ held) in (some.0, some.1 ∙ sym same, some.2),
      λ some. ap (has new_summary) same ∙ here.1 (some.0, some.1 ∙ same, some.2),
    )
    | inr apart ↦ (
      λ held. some_kept words new i k other word set.others apart ((is.each other).0 (sym (above.others other apart) ∙ held)),
      λ some. above.others other apart ∙ (is.each other).1 (some_kept new words i k other word (λ j different. sym (set.others j different)) apart some),
    )
  ];
}

-- number i is taken out, and its word still has one
pub still_summed : (words summary new : List ℕ) (i k : ℕ) → i / 64 ≡ k → IsSummary words summary → Changed words new i → has new i ≡ false
    → HasSome new k → IsSummary new summary
still_summed words summary new i k word is set gone some =
    let kept : has summary k ≡ true = (is.each k).1
    (some.0, some.1, sym (set.others some.0 (λ same. false≢true (sym gone ∙ ap (has new) (sym same) ∙ some.2))) ∙ some.2) in
    IsSummary-changed words summary new summary i k word is set (record { len = refl; others = λ j apart. refl }) (λ held. some, λ held. kept)

-- a search within the word of a number finds nothing
pub none_in_word : (words : List ℕ) (from k b word : ℕ) → from / 64 ≡ k → from % 64 ≡ b → get_or words k 0 ≡ word → ((j : ℕ) → b ≤ j → bit_at word j ≡ 0)
    → HoldsNone words from (64 * (k + 1))
none_in_word words from k b word here bit is clear j low high =
    has_at words j k (j % 64) 0 (omega arith) refl (ap (λ x. bit_at x (j % 64)) is ∙ clear (j % 64) (omega arith))

-- a search from `from` on may begin at `middle` where the set has nothing between them
pub next_from : (words : List ℕ) (from middle : ℕ) (result : Option ℕ) → from ≤ middle → HoldsNone words from middle → IsNext words middle result → IsNext words from result
next_from words from middle None reached none next = record {
  held = tt;
  reached = tt;
  within = tt;
  least = tt;
  none = λ j low. elim (cases_lt j middle) [
    | inl before ↦ none j low before
    | inr after ↦ next.none j after
  ];
}
next_from words from middle (Some i) reached none next = record {
  held = next.held;
  reached = let above : middle ≤ i = next.reached in omega (arith, reached, above);
  within = next.within;
  least = λ j low high. elim (cases_lt j middle) [
    | inl before ↦ none j low before
    | inr after ↦ next.least j after high
  ];
  none = tt;
}

-- the search in the words after word k
module _ (words summary : List ℕ) (is : IsSummary words summary) (k : ℕ) where
  none_before : (later : ℕ) → HoldsNone summary (k + 1) later → HoldsNone words (64 * (k + 1)) (64 * later)
  none_before later none j low high = elim (cases_Bool (has words j)) [
    | inl held ↦ absurd (false≢true (sym (none (j / 64) (omega arith) (omega arith)) ∙ (is.each (j / 64)).1 (j, refl, held)))
    | inr gone ↦ gone
  ]

  pub next_nowhere : IsNext summary (k + 1) None → IsNext words (64 * (k + 1)) None
  next_nowhere next = record {
    held = tt;
    reached = tt;
    within = tt;
    least = tt;
    none = λ j low. none_before (j / 64 + 1) (λ other high before. next.none other high) j low (omega arith);
  }

  pub next_later : (later : ℕ) (result : Option ℕ) → IsNext summary (k + 1) (Some later) → IsNext words (64 * later) result → IsNext words (64 * (k + 1)) result
  next_later later result next found =
      let high : k + 1 ≤ later = next.reached in
      next_from words (64 * (k + 1)) (64 * later) result (omega (arith, high)) (none_before later next.least) found
