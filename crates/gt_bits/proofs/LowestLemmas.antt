-- The lowest run of n numbers, sought word by word.
use Rattle.std.proofs.Common.{◌≡◌, ℕ, suc, ◌+◌, ◌-◌, ◌*◌, ◌^◌, ◌<◌, ◌≤◌, ◌==◌, true, false, List, get_or, Some, None, refl, sym, ap, ◌∙◌, inl, inr, arith, w64}
use Rattle.std.proofs.lemmas.Bool.{cases_eq, cases_lt, both_ways}
use Rattle.std.proofs.lemmas.Nat.Bits.{bit_at_above, bit_at-lt}
use Rattle.std.specs.Int.{bit_at, trailing_ones}
use Rattle.gt_bits.specs.Sets.{has, HoldsAll, IsLowestRun}
use Rattle.gt_bits.specs.Places.{AreSet, IsFirstOnes, IsLastClearBit}
use Rattle.gt_bits.specs.Runs.{HasAbove, IsStartIn, IsRunStart}
use Rattle.gt_bits.proofs.SetLemmas.{has_at}
use Rattle.gt_bits.proofs.OnesLemmas.{low_ones}

-- one word
module _ (word at first n : ℕ) (fits : word < 2 ^ 64) (reached : first ≤ at) (some : 1 ≤ n) where
  pub start_at_first : n ≤ at + trailing_ones w64 word - first → IsStartIn word at first n (Some first)
  start_at_first long =
      let low = low_ones word fits in
      record {
        reached = omega arith;
        within = omega (arith, low.0);
        run = λ j above after before. low.2 (j - at) (omega arith);
        lowest = λ c after before. absurd (omega arith);
        none = tt;
      }

  module _ (short : at + trailing_ones w64 word - first < n) where
    -- such numbers begin after the word does, and so all stand in it
    begins_inside : (c : ℕ) → first ≤ c → at < c + n → HasAbove word at c (c + n) → at < c
    begins_inside c after enough all = elim (cases_lt at c) [
      | inl inside ↦ inside
      | inr outside ↦
          let low = low_ones word fits in
          let place : at + trailing_ones w64 word - at ≡ trailing_ones w64 word = omega arith in
          let set : bit_at word (at + trailing_ones w64 word - at) ≡ 1 = all (at + trailing_ones w64 word) (omega arith) (omega arith) (omega arith) in
          absurd (omega (arith, ap (bit_at word) place, set, low.1))
    ]

    all_inside : (c : ℕ) → at < c → HasAbove word at c (c + n) → AreSet word n (c - at)
    all_inside c inside all j low =
        let place : c + j - at ≡ c - at + j = omega arith in
        sym (ap (bit_at word) place) ∙ all (c + j) (omega arith) (omega arith) (omega arith)

    pub start_nowhere : IsFirstOnes word n None → IsStartIn word at first n None
    start_nowhere ones = record {
      reached = tt;
      within = tt;
      run = tt;
      lowest = tt;
      none = λ c after enough all. let inside = begins_inside c after enough all in ones.none (c - at) (all_inside c inside all);
    }

    pub start_inside : (b : ℕ) → IsFirstOnes word n (Some b) → IsStartIn word at first n (Some (at + b))
    start_inside b ones = record {
      reached = omega arith;
      within = elim (cases_lt 64 (b + n)) [
        | inl over ↦
            let above : bit_at word (b + (n - 1)) ≡ 0 = bit_at_above word 64 (b + (n - 1)) fits (omega arith) in
            absurd (omega (arith, above, ones.ones (n - 1) (omega arith)))
        | inr inside ↦ omega arith
      ];
      run = λ j above after before.
          let place : b + (j - (at + b)) ≡ j - at = omega arith in
          sym (ap (bit_at word) place) ∙ ones.ones (j - (at + b)) (omega arith);
      lowest = λ c after before enough all. let inside = begins_inside c after enough all in ones.lowest (c - at) (omega arith) (all_inside c inside all);
      none = tt;
    }

module _ (word at first : ℕ) (reached : first ≤ at) where
  pub run_goes_on : IsLastClearBit word None → IsRunStart word at first first
  run_goes_on whole = record {
    reached = omega arith;
    within = omega arith;
    all = λ j above after before. whole.none (j - at) (omega arith);
    edge = λ other. absurd (other refl);
  }

  pub run_begins : (b : ℕ) → IsLastClearBit word (Some b) → IsRunStart word at first (at + b + 1)
  run_begins b last =
      let within : b < 64 = last.within in
      record {
        reached = omega arith;
        within = omega arith;
        all = λ j above after before. last.last (j - at) (omega arith) (omega arith);
        edge = λ other. (omega arith, let place : at + b + 1 - 1 - at ≡ b = omega arith in ap (bit_at word) place ∙ last.clear);
      }

-- the words
module _ (words : List ℕ) (n : ℕ) where
  -- the numbers from `first` up to `at` are a run of the set, cut at `at`, and no run of n numbers lies below `at`
  pub record SoFar (at first : ℕ) : Type 0 where
    pub reached : first ≤ at
    pub all : HoldsAll words first at
    pub edge : (j : ℕ) → suc j ≡ first → has words j ≡ false
    pub none : (start : ℕ) → start + n ≤ at → ¬ (HoldsAll words start (start + n))

  module _ (some : 1 ≤ n) where
    pub so_far_start : SoFar 0 0
    so_far_start = record {
      reached = omega arith;
      all = λ j low high. absurd (let no : j < 0 = omega (arith, high) in omega arith);
      edge = λ j is. absurd (omega arith);
      none = λ start low held. absurd (omega arith);
    }

    module _ (at first : ℕ) (so : SoFar at first) where
      -- a run that goes beyond `at` begins from `first` on
      begins_late : (start : ℕ) → at < start + n → HoldsAll words start (start + n) → first ≤ start
      begins_late start beyond held = elim (cases_lt start first) [
        | inl early ↦
            let reached : first ≤ at = so.reached in
            absurd (both_ways (has words (first - 1)) (so.edge (first - 1) (omega arith)) (held (first - 1) (omega arith) (omega arith)))
        | inr late ↦ late
      ]

      pub lowest_none : (end : ℕ) → ((j : ℕ) → at ≤ j → j < end → has words j ≡ false) → IsLowestRun words n end None
      lowest_none end over = record {
        run = tt;
        lowest = tt;
        none = λ start held. elim (cases_lt at (start + n)) [
          | inl beyond ↦
              let within : start + n ≤ end = held.0 in
              both_ways (has words (start + n - 1)) (over (start + n - 1) (omega arith) (omega arith)) (held.1 (start + n - 1) (omega arith) (omega arith))
          | inr inside ↦ so.none start inside held.1
        ];
      }

      module _ (k : ℕ) (here : at ≡ 64 * k) (fits : get_or words k 0 < 2 ^ 64) where
        has_here : (j x : ℕ) → at ≤ j → j < at + 64 → bit_at (get_or words k 0) (j - at) ≡ x → has words j ≡ (x == 1)
        has_here j x low high is = has_at words j k (j - at) x (omega arith) (omega arith) is

        bit_here : (j : ℕ) → at ≤ j → j < at + 64 → has words j ≡ true → bit_at (get_or words k 0) (j - at) ≡ 1
        bit_here j low high held = elim (cases_lt (bit_at (get_or words k 0) (j - at)) 1) [
          | inl clear ↦ absurd (both_ways (has words j) (has_here j 0 low high (omega arith)) held)
          | inr set ↦ omega (arith, bit_at-lt (get_or words k 0) (j - at))
        ]

        word_has : (start stop : ℕ) → stop ≤ at + 64 → HoldsAll words start stop → HasAbove (get_or words k 0) at start stop
        word_has start stop inside held j above after before = bit_here j above (omega arith) (held j after before)

        set_holds : (start stop : ℕ) → first ≤ start → stop ≤ at + 64 → HasAbove (get_or words k 0) at start stop → HoldsAll words start stop
        set_holds start stop late inside above j low high = elim (cases_lt j at) [
          | inl before ↦ so.all j (omega arith) before
          | inr after ↦ has_here j 1 after (omega arith) (above j after low high)
        ]

        module _ (start : ℕ) (is : IsStartIn (get_or words k 0) at first n (Some start)) where
          run_found : HoldsAll words start (start + n)
          run_found = set_holds start (start + n) is.reached is.within is.run

          -- no run of n numbers begins before it
          none_before : (other : ℕ) → other < start → ¬ (HoldsAll words other (other + n))
          none_before other low held = elim (cases_lt at (other + n)) [
            | inl beyond ↦
                let within : start + n ≤ at + 64 = is.within in
                is.lowest other (begins_late other beyond held) low beyond (word_has other (other + n) (omega arith) held)
            | inr inside ↦ so.none other inside held
          ]

          pub lowest_found : (end : ℕ) → start + n ≤ end → IsLowestRun words n end (Some start)
          lowest_found end fits_end = record {
            run = (fits_end, run_found);
            lowest = λ other low held. none_before other low held.1;
            none = tt;
          }

          pub lowest_cut : (end : ℕ) → end < start + n → IsLowestRun words n end None
          lowest_cut end cut = record {
            run = tt;
            lowest = tt;
            none = λ other held. let within : other + n ≤ end = held.0 in none_before other (omega arith) held.1;
          }

        pub so_far_more : IsStartIn (get_or words k 0) at first n None → (next : ℕ) → IsRunStart (get_or words k 0) at first next → SoFar (at + 64) next
        so_far_more nowhere next is = record {
          reached = is.within;
          all = set_holds next (at + 64) is.reached (omega arith) is.all;
          edge = λ j before. elim (cases_eq next first) [
            | inl same ↦ so.edge j (omega arith)
            | inr other ↦
                let bit = is.edge other in
                let within : next ≤ at + 64 = is.within in
                let place : j - at ≡ next - 1 - at = omega arith in
                has_here j 0 (omega (arith, bit.0)) (omega arith) (ap (bit_at (get_or words k 0)) place ∙ bit.1)
          ];
          none = λ start low held. elim (cases_lt at (start + n)) [
            | inl beyond ↦ nowhere.none start (begins_late start beyond held) beyond (word_has start (start + n) low held)
            | inr inside ↦ so.none start inside held
          ];
        }
