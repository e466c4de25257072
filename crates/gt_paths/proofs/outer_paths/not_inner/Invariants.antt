use Rattle.std.proofs.Common.{◌-◌, ◌*◌, length}
use Rattle.gt_paths.proofs.Outermost.{AreFree}
use Rattle.gt_paths.proofs.outer_paths.not_inner.Given as goal

abbrev pub invariant-ids : goal.invariant-ids
invariant-ids l = AreFree l.index.inner l.set l.from l.starts.items

abbrev pub decreases-ids : goal.decreases-ids
decreases-ids l = 64 * length l.set - l.from
