use Rattle.gt_parse.proofs.Parsed.{items_so, fault_so, gives_items, gives_fault}
use Rattle.gt_parse.proofs.parsing.parse.Goals as goal

pub returns-clause-items : goal.returns-clause-items
returns-clause-items c = items_so c.args.file c.args.text.now c.args.lexed.now.tokens c.args.lexed.now.defines c.read.result c.read.ensures

pub returns-clause-fault : goal.returns-clause-fault
returns-clause-fault c = fault_so c.args.file c.args.text.now c.args.lexed.now.tokens c.args.lexed.now.defines c.read.result c.read.ensures

pub returns-clause-all_items : goal.returns-clause-all_items
returns-clause-all_items c = gives_items c.args.file c.args.text.now c.args.lexed.now.tokens c.args.lexed.now.defines c.read.result c.read.ensures

pub returns-clause-each_fault : goal.returns-clause-each_fault
returns-clause-each_fault c = gives_fault c.args.file c.args.text.now c.args.lexed.now.tokens c.args.lexed.now.defines c.read.result c.read.ensures
