use Rattle.std.proofs.Common.{rules}
use Rattle.gt_value.specs.Values.{tree_of}
use Rattle.stand_table.proofs.OneList.{decides}
use Rattle.stand_table.proofs.verdicts.are_bytes_for.Goals as goal

pub returns : goal.returns
returns c = decides c.args.on.now c.requires.ready.settled c.args.ty.now (tree_of c.args.value.now) c.args.bytes.now c.in_ok-leaves.leaves.items _ c.in_ok-leaves.ensures (search rules)
