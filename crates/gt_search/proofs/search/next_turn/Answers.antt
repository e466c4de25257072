use Rattle.std.proofs.Common.{sym, ◌∙◌}
use Rattle.gt_search.proofs.Turns.{wrapper_at-fits, item_end-fits}
use Rattle.gt_search.proofs.search.next_turn.Goals as goal

pub returns-in-Some-clause-fits : goal.returns-in-Some-clause-fits
returns-in-Some-clause-fits c = wrapper_at-fits c.args.tokens.now c.in-Some.brace c.in-Some.len c.in-Some.ensures

pub returns-in-Whole-clause-fits : goal.returns-in-Whole-clause-fits
returns-in-Whole-clause-fits c = item_end-fits c.args.tokens.now c.in-Whole.len (sym c.in-Whole.is ∙ c.in_ok-len.ensures)
