use Rattle.std.proofs.Common.{ap, option_copied}
use Rattle.gt_leaf.proofs.BeginSets.{if-there}
use Rattle.gt_leaf.proofs.begins.outers_of.Goals as goal

pub returns-in-Some : goal.returns-in-Some
returns-in-Some c = record { outers = if-there _ (option_copied c.of.result) _ c.in-Some.set.now c.of.ensures.outers (ap option_copied c.in-Some.is) (c.requires.outers.are c.args.node) }
