use Rattle.std.proofs.Common.{take}
use Rattle.gt_value.proofs.CursorFollows.{Follows}
use Rattle.gt_value.proofs.cursors.Cursor.follow.Given as goal

abbrev pub invariant-loop-place : goal.invariant-loop-place
invariant-loop-place l = Follows l.fn.self l.cursor (take l.place-index l.path)
