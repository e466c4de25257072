use Rattle.std.proofs.Common.{◌≡◌, ◌≤◌, drop}
use Rattle.gt_front.specs.Places.{after_newline}
use Rattle.gt_front.proofs.places.after_newline.Given as goal

abbrev pub invariant-loop-byte : goal.invariant-loop-byte
invariant-loop-byte l =
    record {
      so_far : after_newline l.count (drop l.byte-index l.front) ≡ after_newline 0 l.front;
      few : l.count ≤ l.byte-index;
    }
