use Rattle.std.proofs.Common.{◌≡◌, drop, map}
use Rattle.gt_alike.specs.Prints.{mix_all, leaf_print}
use Rattle.gt_alike.proofs.prints.leaves_print.Given as goal

abbrev pub invariant-loop-leaf : goal.invariant-loop-leaf
invariant-loop-leaf l = mix_all l.all (map leaf_print (drop l.leaf-index l.leaves)) ≡ mix_all l.fn.sum (map leaf_print l.leaves)
