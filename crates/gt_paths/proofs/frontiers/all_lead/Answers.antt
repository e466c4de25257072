use Rattle.std.proofs.Common.{ℕ}
use Rattle.gt_types.specs.Paths.{LeadsToNumber}
use Rattle.gt_paths.specs.Numbers.{numbered}
use Rattle.gt_paths.proofs.Lists.{all_further, all_seen, one_lacks}
use Rattle.gt_paths.proofs.frontiers.all_lead.Goals as goal

pub loop-start-preserved : goal.loop-start-preserved
loop-start-preserved c =
    all_further (λ (start : ℕ). LeadsToNumber c.args.program.now (numbered start) c.args.steps.now) c.args.starts.now c.loop-start.start-index 0 c.loop-start-test.true c.loop-start.invariant
    (c.leads_to_number.ensures.decides.0 c.if-not-leads_to_number.false)

pub returns-then-not-leads_to_number : goal.returns-then-not-leads_to_number
returns-then-not-leads_to_number c =
    one_lacks (λ (start : ℕ). LeadsToNumber c.args.program.now (numbered start) c.args.steps.now) c.args.starts.now c.loop-start.start-index 0 c.leads_to_number.result c.loop-start-test.true
    c.leads_to_number.ensures.decides c.if-not-leads_to_number.true

pub returns : goal.returns
returns c =
    all_seen (λ (start : ℕ). LeadsToNumber c.args.program.now (numbered start) c.args.steps.now) c.args.starts.now c.loop-start.start-index c.loop-start-test.false c.loop-start.invariant
