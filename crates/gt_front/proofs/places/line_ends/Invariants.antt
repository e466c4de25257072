use Rattle.std.proofs.Common.{◌≡◌, ◌+◌, ◌≤◌, drop}
use Rattle.gt_front.specs.Places.{line_ends}
use Rattle.gt_front.proofs.places.line_ends.Given as goal

abbrev pub invariant-loop-byte : goal.invariant-loop-byte
invariant-loop-byte l =
    record {
      so_far : l.ends + line_ends (drop l.byte-index l.front) ≡ line_ends l.front;
      few : l.ends ≤ l.byte-index;
    }
