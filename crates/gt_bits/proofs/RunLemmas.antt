-- The longest run, of those found one after another.
use Rattle.std.proofs.Common.{◌≡◌, ℕ, ◌+◌, ◌-◌, ◌<◌, ◌≤◌, max, List, inl, inr, arith}
use Rattle.std.proofs.lemmas.Bool.{cases_lt, both_ways}
use Rattle.gt_bits.specs.Sets.{has, HoldsNone, HasRun, IsLongestRun}
use Rattle.gt_bits.specs.Runs.{IsRun}
use Rattle.gt_bits.specs.declared.runs.Run.{Run}

module _ (words : List ℕ) (end : ℕ) where
  -- a run that begins from `from` on and before the next run stops is no longer than that
  run_is_short : (from : ℕ) (run : Run) → IsRun words from end run → (n start : ℕ) → 1 ≤ n → from ≤ start → HasRun words n end start → start < run.stop → n ≤ run.stop - run.start
  run_is_short from run is n start some low held early =
      let first : run.start ≤ start = elim (cases_lt start run.start) [
        | inl before ↦ absurd (both_ways (has words start) (is.before start low before) (held.1 start (omega arith) (omega arith)))
        | inr after ↦ after
      ] in
      let within : start + n ≤ end = held.0 in
      let last : start + n ≤ run.stop = elim (cases_lt run.stop (start + n)) [
        | inl cut ↦ absurd (both_ways (has words run.stop) (is.maximal (omega arith)) (held.1 run.stop (omega arith) cut))
        | inr whole ↦ whole
      ] in
      omega arith

  -- no run is where nothing of the set is
  run_is_nowhere : (from : ℕ) → HoldsNone words from end → (n start : ℕ) → 1 ≤ n → from ≤ start → ¬ (HasRun words n end start)
  run_is_nowhere from none n start some low held =
      let within : start + n ≤ end = held.0 in
      both_ways (has words start) (none start low (omega arith)) (held.1 start (omega arith) (omega arith))

  -- the numbers of a run
  whole_run : (from : ℕ) (run : Run) → IsRun words from end run → (n : ℕ) → n ≤ run.stop - run.start → HasRun words n end run.start
  whole_run from run is n fits =
      let some : run.start < run.stop = is.some in
      let stop : run.stop ≤ end = is.stop in
      (omega arith, λ j low high. is.all j low (omega arith))

  -- there is a run of so many numbers, and none that begins below `from` has more
  pub record LongestBefore (from longest : ℕ) : Type 0 where
    pub run : (start : ℕ) × HasRun words longest end start
    pub most : (n start : ℕ) → start < from → HasRun words n end start → n ≤ longest

  pub longest_start : LongestBefore 0 0
  longest_start = record {
    run = (0, (omega arith, λ j low high. absurd (let no : j < 0 = omega (arith, high) in omega arith)));
    most = λ n start low held. omega arith;
  }

  pub longest_step : (from longest : ℕ) (run : Run) → LongestBefore from longest → IsRun words from end run → LongestBefore run.stop (max longest (run.stop - run.start))
  longest_step from longest run before is = record {
    run = elim (cases_lt longest (run.stop - run.start)) [
      | inl more ↦ (run.start, whole_run from run is (max longest (run.stop - run.start)) (omega arith))
      | inr less ↦ let same : longest ≡ max longest (run.stop - run.start) = omega arith in rw (← same) before.run
    ];
    most = λ n start low held. elim (cases_lt 0 n) [
      | inl some ↦ elim (cases_lt start from) [
        | inl early ↦ omega (arith, before.most n start early held)
        | inr late ↦ omega (arith, run_is_short from run is n start some late held low)
      ]
      | inr none ↦ omega arith
    ];
  }

  pub longest_done : (from longest : ℕ) → LongestBefore from longest → HoldsNone words from end → IsLongestRun words end longest
  longest_done from longest before none = record {
    run = before.run;
    longest = λ n start held. elim (cases_lt 0 n) [
      | inl some ↦ elim (cases_lt start from) [
        | inl early ↦ before.most n start early held
        | inr late ↦ absurd (run_is_nowhere from none n start some late held)
      ]
      | inr nothing ↦ omega arith
    ];
  }
