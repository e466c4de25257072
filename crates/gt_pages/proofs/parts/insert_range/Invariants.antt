use Rattle.std.proofs.Common.{◌≡◌, ℕ, ◌<◌, ◌≤◌, ◌⊎◌, true}
use Rattle.gt_bits.specs.Sets.{has}
use Rattle.gt_pages.proofs.parts.insert_range.Given as goal

abbrev pub invariant-loop-i : goal.invariant-loop-i
invariant-loop-i l = record {
  range : (j : ℕ) → l.first ≤ j → j < l.i → has l.words j ≡ true;
  others : (j : ℕ) → (j < l.first) ⊎ (l.i ≤ j) → has l.words j ≡ has l.fn.words j;
}
