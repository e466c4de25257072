use Rattle.gt_steps.proofs.Stepped.{by_threshold}
use Rattle.gt_steps.proofs.collecting.collect.Goals as goal

pub returns-clause-next : goal.returns-clause-next
returns-clause-next c = λ told s stands.
    let next = c.collect_in.ensures.next told s stands in
    (next.0, by_threshold c.args.s.now.schema.program c.heuristic-mode.result s next.0 c.collect_in.result (c.heuristic-mode.ensures.threshold told s stands) next.1, next.2)
