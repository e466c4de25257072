use Rattle.std.proofs.Common.{length}
use Rattle.gt_fit.proofs.paths.+read_path.Given as goal

abbrev pub decreases-read_path : goal.decreases-read_path
decreases-read_path l = length l.steps.now
