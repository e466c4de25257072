use Rattle.gt_rules.proofs.InnerLemmas.{named_ok}
use Rattle.gt_rules.proofs.names.is_declared_inner.Goals as goal

pub returns : goal.returns
returns c = record { decides = named_ok c.args.known.draft.now c.args.known.program.now c.args.known.index.now c.args.id c.is_inner.result c.requires.index c.is_inner.ensures.decides }
