use Rattle.gt_objects.proofs.Listed.{greatest-size}
use Rattle.gt_objects.proofs.laws.blocks_have_a_greatest_size.Goals as goal

pub returns : goal.returns
returns c = greatest-size
