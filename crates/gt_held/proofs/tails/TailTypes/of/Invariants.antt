use Rattle.std.proofs.Common.{◌≡◌, ℕ, length, Some}
use Rattle.std.specs.Prelude.{Bool, slice_get}
use Rattle.std.specs.Bool.{Decides}
use Rattle.gt_held.specs.Tails.{AreKnownTails, IsTailAt}
use Rattle.gt_held.proofs.tails.TailTypes.of.Given as goal

abbrev pub invariant-loop-place : goal.invariant-loop-place
invariant-loop-place l = record {
  known : AreKnownTails l.program l.known.items;
  all : length l.tails.items ≡ l.place;
  each : (place : ℕ) (tail : Bool) → slice_get l.tails.items place ≡ Some tail → Decides tail (IsTailAt l.program place);
}
