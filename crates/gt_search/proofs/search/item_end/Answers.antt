use Rattle.std.proofs.Common.{sym, ◌∙◌, arith}
use Rattle.gt_search.proofs.ItemEnds.{at_step, at_next, at_end}
use Rattle.gt_search.proofs.search.item_end.Goals as goal

pub returns-in-Ends : goal.returns-in-Ends
returns-in-Ends c =
    sym (at_step c.args.tokens.now c.loop-at.at c.loop-at.begun c.loop-at.invariant c.index-tokens-at.result _ (omega arith) c.index-tokens-at.is (sym c.in-Ends.is ∙ c.in_ok-next.ensures))

pub returns-in-Stops : goal.returns-in-Stops
returns-in-Stops c =
    sym (at_step c.args.tokens.now c.loop-at.at c.loop-at.begun c.loop-at.invariant c.index-tokens-at.result _ (omega arith) c.index-tokens-at.is (sym c.in-Stops.is ∙ c.in_ok-next.ensures))

pub loop-at-preserved : goal.loop-at-preserved
loop-at-preserved c =
    at_next c.args.tokens.now c.loop-at.at c.loop-at.begun c.loop-at.invariant c.index-tokens-at.result c.in-Goes.next (omega arith) c.index-tokens-at.is (sym c.in-Goes.is ∙ c.in_ok-next.ensures)

pub returns : goal.returns
returns c = sym (at_end c.args.tokens.now c.loop-at.at c.loop-at.begun c.loop-at.invariant (omega arith))
