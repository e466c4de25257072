use Rattle.heap_table.proofs.Named.{named}
use Rattle.heap_table.proofs.blocks.Blocks.of.Goals as goal

pub invariant_of-result : goal.invariant_of-result
invariant_of-result c = record { named = named c.args.objects.now c.requires.names (c.have_texts.ensures.0 c.if-have_texts.true) }
