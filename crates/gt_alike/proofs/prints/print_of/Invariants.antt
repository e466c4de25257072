use Rattle.std.proofs.Common.{◌≡◌, drop, map}
use Rattle.gt_alike.specs.Prints.{mix_all, row_print}
use Rattle.gt_alike.proofs.prints.print_of.Given as goal

abbrev pub invariant-loop-row : goal.invariant-loop-row
invariant-loop-row l = mix_all l.all (map row_print (drop l.row-index l.rows)) ≡ mix_all 0 (map row_print l.rows)
