use Rattle.gt_rules.proofs.InnerLemmas.{stands_ok}
use Rattle.gt_rules.proofs.caches.may_stand.Goals as goal

pub returns : goal.returns
returns c = record { decides = stands_ok c.args.known.draft.now c.args.known.program.now c.args.known.index.now c.args.id c.may_stand_beside.result c.requires.index c.may_stand_beside.ensures.decides }
