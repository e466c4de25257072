use Rattle.std.proofs.Common.{◌+◌, ◌*◌, take}
use Rattle.std.specs.Prelude.{All}
use Rattle.gt_held.specs.Tails.{AreKnownTails, IsTailMember}
use Rattle.gt_held.proofs.tails.+tails.Given as goal

abbrev pub decreases-is_tail : goal.decreases-is_tail
decreases-is_tail l = 3 * l.depth + 2

abbrev pub decreases-has_tail : goal.decreases-has_tail
decreases-has_tail l = 3 * l.depth + 1

abbrev pub decreases-is_tail_member : goal.decreases-is_tail_member
decreases-is_tail_member l = 3 * l.depth

abbrev pub invariant-has_tail-loop-field : goal.invariant-has_tail-loop-field
invariant-has_tail-loop-field l = record {
  before : All (λ f. ¬ IsTailMember l.program f) (take l.field-index l.fields);
  known : AreKnownTails l.program l.known.items;
}
