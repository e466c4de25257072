use Rattle.std.proofs.Common.{arith}
use Rattle.gt_tree.specs.Trees.{End}
use Rattle.value_table.proofs.finding.find.Goals as goal

pub overflow_sub-result : goal.overflow_sub-result
overflow_sub-result c =
    let is = (c.in_ok-place.ensures.leaf End c.requires.stands.0 c.requires.stands.1).is in
    omega (arith, is.address_is)

pub read_leaf-requires-clause-from_start : goal.read_leaf-requires-clause-from_start
read_leaf-requires-clause-from_start c = (c.in_ok-place.ensures.leaf End c.requires.stands.0 c.requires.stands.1).is.from_start

pub read_leaf-requires-clause-bits : goal.read_leaf-requires-clause-bits
read_leaf-requires-clause-bits c = (c.in_ok-place.ensures.leaf End c.requires.stands.0 c.requires.stands.1).is.bits
