use Rattle.heap_table.proofs.Named.{char_text, char_low}
use Rattle.heap_table.proofs.blocks.BlocksBlockNames.byte.Goals as goal

pub char_at-requires-clause-text : goal.char_at-requires-clause-text
char_at-requires-clause-text c = char_text c.args.self.now.objects.now c.args.self.now.named c.args.addr c.in-Some.o.now c.in-Some.ensures c.args.i c.requires.there

pub char_at-requires-clause-there : goal.char_at-requires-clause-there
char_at-requires-clause-there c = char_low c.args.self.now.objects.now c.args.self.now.named c.args.addr c.in-Some.o.now c.in-Some.ensures c.args.i c.requires.there
