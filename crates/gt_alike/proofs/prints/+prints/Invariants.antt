use Rattle.std.proofs.Common.{◌≡◌, drop, map}
use Rattle.gt_alike.specs.Prints.{mix_all, arm_print}
use Rattle.gt_alike.proofs.prints.+prints.Given as goal

abbrev pub invariant-arms_print-loop-arm : goal.invariant-arms_print-loop-arm
invariant-arms_print-loop-arm l = mix_all l.all (map arm_print (drop l.arm-index l.arms)) ≡ mix_all l.fn.sum (map arm_print l.arms)
