use Rattle.std.proofs.Common.{sym}
use Rattle.gt_store.proofs.PlainSizes.{plain-sized-there}
use Rattle.gt_store.proofs.sizes.node_size.Goals as goal

pub returns-in-Some : goal.returns-in-Some
returns-in-Some c = record {
  size = plain-sized-there c.args.program.now c.args.layouts.now c.requires.settled c.requires.laid c.args.id c.requires.there c.args.capacity c.if-capacity-eq0.true c.in-Some.plane.now (sym c.in-Some.ensures.item);
}
