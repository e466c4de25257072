use Rattle.std.proofs.Common.{◌≡◌, ℕ, ◌<◌, length, true, Some}
use Rattle.std.specs.Prelude.{◌⊎◌, slice_get}
use Rattle.gt_shapes.specs.Cycles.{IsPreceded}
use Rattle.gt_shapes.specs.Graphs.{Reached, edges_at}
use Rattle.gt_shapes.proofs.containment.cyclic.Given as goal

-- the flags of so many structures
abbrev pub invariant-loop-place : goal.invariant-loop-place
invariant-loop-place l =
    record {
      count : length l.flags.items ≡ l.place;
      only : (i : ℕ) → i < l.place → slice_get l.flags.items i ≡ Some true → Reached l.graph (edges_at l.graph i) i;
      known : (i : ℕ) → i < l.place → Reached l.graph (edges_at l.graph i) i → (slice_get l.flags.items i ≡ Some true) ⊎ IsPreceded l.structures l.deep i;
    }
