use Rattle.std.proofs.Common.{arith}
use Rattle.value_table.proofs.finding.find_root.Goals as goal

pub overflow_sub-result : goal.overflow_sub-result
overflow_sub-result c =
    let is = (c.in_ok-place.ensures.leaf c.requires.stands.0 c.requires.stands.1).is in
    omega (arith, is.from_start, c.start.ensures.start)

pub read_leaf-requires-clause-from_start : goal.read_leaf-requires-clause-from_start
read_leaf-requires-clause-from_start c = (c.in_ok-place.ensures.leaf c.requires.stands.0 c.requires.stands.1).is.from_start

pub read_leaf-requires-clause-bits : goal.read_leaf-requires-clause-bits
read_leaf-requires-clause-bits c = (c.in_ok-place.ensures.leaf c.requires.stands.0 c.requires.stands.1).is.bits
