use Rattle.std.proofs.Common.{[], sym, ap, ◌∙◌, arith}
use Rattle.gt_marked.specs.Outcome.{Read}
use Rattle.gt_parse.proofs.Depths.{unmarked_stops, unmarked_after, unmarked_end}
use Rattle.gt_parse.proofs.reading.item_without_markers.Goals as goal

pub returns-in-Gty : goal.returns-in-Gty
returns-in-Gty c = unmarked_stops c.args.tokens.now c.loop-token.token-index c.token-item.result _ (omega arith) c.token-item.is c.loop-token.invariant c.in-Gty.spot c.in-Gty.is

pub loop-token-preserved : goal.loop-token-preserved
loop-token-preserved c = unmarked_after c.args.tokens.now c.loop-token.token-index c.token-item.result _ (omega arith) c.token-item.is c.loop-token.invariant (λ s e. c.in_default.not-Gty s e)

pub returns : goal.returns
returns c = (
  [],
  unmarked_end c.args.tokens.now c.loop-token.token-index _ (omega arith) c.loop-token.invariant
      ∙ ap (λ found. Read found []) (sym c.in_ok-unmarked_item.ensures),
)
