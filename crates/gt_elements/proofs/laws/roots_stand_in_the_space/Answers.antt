use Rattle.gt_elements.proofs.Found.{roots}
use Rattle.gt_elements.proofs.laws.roots_stand_in_the_space.Goals as goal

pub returns : goal.returns
returns c program layouts objects heap settled laid within space is = roots program layouts settled laid objects heap is space within
