use Rattle.std.proofs.Common.{◌∙◌, sym}
use Rattle.gt_tree.specs.Fits.{is_default}
use Rattle.gt_walk.specs.declared.rows.Arm.{out-Arm}
use Rattle.gt_walk.proofs.Arms.{find-none, find-some}
use Rattle.gt_walk.proofs.visiting.find_default.Goals as goal

pub returns-in-None : goal.returns-in-None
returns-in-None c = sym (find-none (λ a. is_default (out-Arm a).active) c.args.arms.now c.in-None.ensures)

pub returns-in-Some : goal.returns-in-Some
returns-in-Some c = c.at.ensures ∙ sym (find-some (λ a. is_default (out-Arm a).active) c.args.arms.now c.in-Some.place c.in-Some.ensures)
