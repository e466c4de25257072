use Rattle.heap_table.proofs.Pairing.{single}
use Rattle.heap_table.proofs.pairs.is_single.Goals as goal

pub returns-in-Some : goal.returns-in-Some
returns-in-Some c = single c.args.objects.now c.args.id c.in-Some.o.now c.args.node c.holds_one.result c.in-Some.ensures c.holds_one.ensures
