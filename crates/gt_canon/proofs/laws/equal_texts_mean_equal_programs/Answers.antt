use Rattle.gt_canon.proofs.SameTexts.{same_programs}
use Rattle.gt_canon.proofs.laws.equal_texts_mean_equal_programs.Goals as goal

pub returns : goal.returns
returns c = same_programs
