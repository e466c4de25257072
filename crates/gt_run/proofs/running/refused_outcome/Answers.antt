use Rattle.std.proofs.Common.{ℕ, ◌≤◌, ◌∙◌, Some, ap, sym, subst}
use Rattle.gt_space.specs.Range.{empty_range}
use Rattle.gt_front.specs.Order.{extent_for}
use Rattle.gt_run.specs.Outputs.{output}
use Rattle.gt_run.specs.Ended.{status_of}
use Rattle.gt_run.proofs.EndLemmas.{Ended-refused, Ends-of}
use Rattle.gt_run.proofs.NoneRan.{refused-high}
use Rattle.gt_run.proofs.running.refused_outcome.Goals as goal

pub returns-clause-ended : goal.returns-clause-ended
returns-clause-ended g c = λ words told texts first is.
    Ends-of words told (Some (extent_for texts c.args.refusal)) (output g.K.Sink.writes g.K.Sink.written c.args.out.now c.refuse.new.out) c.refuse.result _ empty_range c.of.result
    (c.of.ensures.status ∙ ap (status_of c.refuse.result) c.new.ensures.none) (ap (λ a. a.items) c.of.ensures.answers ∙ c.new.ensures.none) c.of.ensures.refusal
    (Ended-refused words told texts c.args.refusal c.args.line.now first is (output g.K.Sink.writes g.K.Sink.written c.args.out.now c.refuse.new.out) c.refuse.result c.refuse.ensures.refused)

pub returns-clause-status : goal.returns-clause-status
returns-clause-status g c =
    subst (λ (status : ℕ). 2 ≤ status) (sym c.of.ensures.status) (refused-high c.args.refusal c.args.line.now (output g.K.Sink.writes g.K.Sink.written c.args.out.now c.refuse.new.out) c.refuse.result _ c.refuse.ensures.refused)

pub returns-clause-unanswered : goal.returns-clause-unanswered
returns-clause-unanswered g c = ap (λ a. a.items) c.of.ensures.answers ∙ c.new.ensures.none
