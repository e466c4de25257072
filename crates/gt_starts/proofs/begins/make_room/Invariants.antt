use Rattle.std.proofs.Common.{◌≡◌, ◌≤◌, ℕ, suc, ◌-◌, vec_len}
use Rattle.gt_starts.specs.Begins.{sets_at}
use Rattle.gt_starts.proofs.begins.make_room.Given as goal

abbrev pub invariant-loop-alloc : goal.invariant-loop-alloc
invariant-loop-alloc l = record {
  same : (i : ℕ) → sets_at l.rows.items i ≡ sets_at l.fn.rows.items i;
  longer : vec_len l.fn.rows ≤ vec_len l.rows;
}

abbrev pub decreases-loop-alloc : goal.decreases-loop-alloc
decreases-loop-alloc l = suc l.n - vec_len l.rows
