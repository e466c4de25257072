use Rattle.gt_tree.proofs.Bytes.{one-form}
use Rattle.gt_tree.proofs.laws.leaves_have_one_form.Goals as goal

pub returns : goal.returns
returns c = one-form
