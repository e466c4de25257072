use Rattle.gt_tree.proofs.PathScopes.{reading-same}
use Rattle.gt_tree.proofs.paths.reading_is_same.Goals as goal

pub returns : goal.returns
returns c = reading-same
