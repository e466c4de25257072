use Rattle.std.proofs.Common.{◌≡◌, take}
use Rattle.gt_resolve.proofs.copies.options_copy.Given as goal

abbrev pub invariant-loop-option : goal.invariant-loop-option
invariant-loop-option l = l.made.items ≡ take l.option-index l.options
