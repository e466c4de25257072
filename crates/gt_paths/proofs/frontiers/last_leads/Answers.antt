use Rattle.std.proofs.Common.{ℕ, ◌-◌, List, Option, length, take, drop, subst}
use Rattle.std.specs.Bool.{Decides}
use Rattle.gt_paths.specs.OuterPaths.{AllLead, AreReached}
use Rattle.gt_paths.proofs.Reaching.{asked_each, asked_none}
use Rattle.gt_paths.proofs.frontiers.last_leads.Goals as goal

-- the last name is asked of each
pub returns-in-Some-clause-decides : goal.returns-in-Some-clause-decides
returns-in-Some-clause-decides c =
    let steps = c.args.steps.now in
    asked_each c.args.program.now c.args.starts.now steps c.args.last c.in-Some.reached c.all_lead.result c.requires.last
    (subst (λ (reached : Option (List ℕ)). AreReached c.args.program.now c.args.starts.now (take c.args.last steps) reached) c.in-Some.is c.in_ok-reached.ensures.reached)
    (subst (λ (ids : List ℕ). Decides c.all_lead.result (AllLead c.args.program.now ids (take (length steps - c.args.last) (drop c.args.last steps)))) c.as_slice.ensures.items c.all_lead.ensures)

-- of none
pub returns-in-None-clause-decides : goal.returns-in-None-clause-decides
returns-in-None-clause-decides c =
    asked_none c.args.program.now c.args.starts.now c.args.steps.now c.args.last c.requires.last
    (subst (λ (reached : Option (List ℕ)). AreReached c.args.program.now c.args.starts.now (take c.args.last c.args.steps.now) reached) c.in-None.is c.in_ok-reached.ensures.reached)
