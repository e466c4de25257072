use Rattle.heap_table.proofs.Named.{told}
use Rattle.heap_table.proofs.blocks.BlocksBlockNames.block.Goals as goal

pub returns : goal.returns
returns c = record { told = told c.args.self.now.objects.now c.args.self.now.named c.args.addr c.in_ok-o.o.now c.in_ok-o.ensures }
