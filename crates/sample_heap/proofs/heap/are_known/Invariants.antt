use Rattle.std.proofs.Common.{ℕ, ◌≡◌, ◌<◌, length, get_or, is_some, true}
use Rattle.gt_pages.specs.Slots.{StartsSome, mark_at}
use Rattle.sample_heap.proofs.heap.are_known.Given as goal

abbrev pub invariant-loop-addr : goal.invariant-loop-addr
invariant-loop-addr l = (i : ℕ) → i < l.addr-index → i < length l.blocks → StartsSome l.pages.slots (get_or l.blocks i 0) × (is_some (mark_at l.known.slots (get_or l.blocks i 0)) ≡ true)
