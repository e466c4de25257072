use Rattle.std.proofs.Common.{◌+◌, ◌*◌, take}
use Rattle.std.specs.Prelude.{All}
use Rattle.gt_unions.specs.Beginnings.{AreKnown, HoldsPlain}
use Rattle.gt_unions.proofs.plain.+plain.Given as goal

abbrev pub decreases-look_inside : goal.decreases-look_inside
decreases-look_inside l = 4 * l.depth + 3

abbrev pub decreases-find_plain : goal.decreases-find_plain
decreases-find_plain l = 4 * l.depth + 4

abbrev pub decreases-holds_plain : goal.decreases-holds_plain
decreases-holds_plain l = 4 * l.depth + 1

abbrev pub decreases-all_hold_plain : goal.decreases-all_hold_plain
decreases-all_hold_plain l = 4 * l.depth + 2

abbrev pub invariant-all_hold_plain-loop-f : goal.invariant-all_hold_plain-loop-f
invariant-all_hold_plain-loop-f l = All (HoldsPlain l.program) (take l.f-index l.fields) × AreKnown l.program l.known.items
