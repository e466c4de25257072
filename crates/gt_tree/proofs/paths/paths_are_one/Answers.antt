use Rattle.gt_tree.proofs.PathBits.{paths-one}
use Rattle.gt_tree.proofs.paths.paths_are_one.Goals as goal

pub returns : goal.returns
returns c = λ program layouts settled. paths-one program layouts.structures settled
