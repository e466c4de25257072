use Rattle.std.proofs.Common.{◌≡◌, drop}
use Rattle.std.specs.List.{list_any}
use Rattle.gt_tree.specs.Leaves.{is_set_in}
use Rattle.gt_value.specs.Bytes.{itself}
use Rattle.stand_table.specs.Leaves.{leaves_in}
use Rattle.stand_table.proofs.standing.is_set.Given as goal

abbrev pub invariant-loop-leaf : goal.invariant-loop-leaf
invariant-loop-leaf l = list_any (is_set_in itself l.bit) (leaves_in (drop l.leaf-index l.leaves)) ≡ list_any (is_set_in itself l.bit) (leaves_in l.leaves)
