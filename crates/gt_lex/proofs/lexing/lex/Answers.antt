use Rattle.gt_lex.proofs.Outcomes.{gives_tokens, gives_fault}
use Rattle.gt_lex.proofs.lexing.lex.Goals as goal

pub returns-clause-all_tokens : goal.returns-clause-all_tokens
returns-clause-all_tokens c = λ tokens defines is. gives_tokens c.args.file c.args.text.now c.read.result tokens defines c.read.ensures.tokens c.read.ensures.fault is

pub returns-clause-each_fault : goal.returns-clause-each_fault
returns-clause-each_fault c = λ first same is. gives_fault c.args.file c.args.text.now c.read.result first c.read.ensures.tokens c.read.ensures.fault same is
