use Rattle.std.proofs.Common.{◌↔◌, drop}
use Rattle.gt_fit.proofs.PartsFit.{AreBare}
use Rattle.gt_fit.proofs.checks.+null.Given as goal

abbrev pub invariant-all_bare-loop-part : goal.invariant-all_bare-loop-part
invariant-all_bare-loop-part l = AreBare (drop l.part-index l.parts) ↔ AreBare l.parts
