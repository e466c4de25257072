use Rattle.std.proofs.Common.{◌≡◌, ℕ, ◌<◌, ◌≤◌, true}
use Rattle.gt_bits.specs.Sets.{has}
use Rattle.gt_entries.proofs.sets.insert_all.Given as goal

abbrev pub invariant-loop-i : goal.invariant-loop-i
invariant-loop-i l = record {
  held : (j : ℕ) → j < l.i → has l.words j ≡ true;
  others : (j : ℕ) → l.i ≤ j → has l.words j ≡ has l.fn.words j;
}
