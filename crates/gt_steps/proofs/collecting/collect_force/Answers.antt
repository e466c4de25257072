use Rattle.std.proofs.Common.{◌≤◌, arith}
use Rattle.gt_next.specs.Collecting.{allocated}
use Rattle.gt_steps.proofs.collecting.collect_force.Goals as goal

pub returns-clause-next : goal.returns-clause-next
returns-clause-next c = λ told s stands.
    let next = c.collect_in.ensures.next told s stands in
    let always : 0 ≤ allocated s = omega arith in
    (next.0, next.1.collects always, next.2)
