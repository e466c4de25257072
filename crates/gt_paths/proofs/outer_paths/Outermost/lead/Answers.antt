use Rattle.std.proofs.Common.{ℕ, List, sym, subst}
use Rattle.std.specs.Bool.{Decides}
use Rattle.std.proofs.lemmas.Result.{IfOk-weaker}
use Rattle.gt_types.specs.declared.expressions.Base.TheVariants.{Outermost}
use Rattle.gt_types.specs.Paths.{PathFitsBeside}
use Rattle.gt_paths.specs.Indexes.{inner_in}
use Rattle.gt_paths.specs.OuterPaths.{AllLead, AreAnswers}
use Rattle.gt_paths.proofs.Fitting.{outermost_lead}
use Rattle.gt_paths.proofs.outer_paths.Outermost.lead.Goals as goal

pub each_leads-requires-clause-answers : goal.each_leads-requires-clause-answers
each_leads-requires-clause-answers c =
    subst (λ (starts : List ℕ). AreAnswers c.args.program.now starts c.args.self.now.answers) (sym c.as_slice-starts.ensures.items) c.requires.around.answers

pub returns-clause-decides : goal.returns-clause-decides
returns-clause-decides c =
    IfOk-weaker c.each_leads.result (λ r. Decides r (AllLead c.args.program.now c.as_slice-starts.result.now c.args.steps.now)) (λ r. Decides r (PathFitsBeside (inner_in c.args.index.now) c.args.program.now c.args.node Outermost c.args.steps.now))
    (λ r decides. outermost_lead (inner_in c.args.index.now) c.args.program.now c.args.node c.args.self.now.starts c.args.steps.now r c.requires.around.starts
    (subst (λ (starts : List ℕ). Decides r (AllLead c.args.program.now starts c.args.steps.now)) c.as_slice-starts.ensures.items decides))
    c.each_leads.ensures.decides

pub returns-clause-around : goal.returns-clause-around
returns-clause-around c = record {
  starts = c.requires.around.starts;
  answers = subst (λ (starts : List ℕ). AreAnswers c.args.program.now starts c.each_leads.new.answers) c.as_slice-starts.ensures.items c.each_leads.ensures.answers;
}
