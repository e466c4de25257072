use Rattle.std.proofs.Common.{◌≡◌, ℕ, length, Some}
use Rattle.std.specs.Prelude.{Bool, slice_get}
use Rattle.gt_held.proofs.tails.empty_memo.Given as goal

abbrev pub invariant-loop : goal.invariant-loop
invariant-loop l = record {
  all : length l.known.items ≡ l.counter;
  none : (place : ℕ) (tail : Bool) → ¬ (slice_get l.known.items place ≡ Some (Some tail));
}
