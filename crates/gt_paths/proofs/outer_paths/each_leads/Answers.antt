use Rattle.std.proofs.Common.{ℕ, List, ◌∙◌, sym, subst}
use Rattle.std.specs.Bool.{Decides}
use Rattle.gt_paths.specs.OuterPaths.{AllLead}
use Rattle.gt_paths.proofs.Fitting.{answers_more}
use Rattle.gt_paths.proofs.outer_paths.each_leads.Goals as goal

pub returns-in-Some-clause-decides : goal.returns-in-Some-clause-decides
returns-in-Some-clause-decides c = c.requires.answers.paths c.args.steps.now c.in-Some.leads (sym c.get.ensures.value ∙ sym c.copied.ensures ∙ c.in-Some.is)

pub returns-clause-decides : goal.returns-clause-decides
returns-clause-decides c =
    subst (λ (steps : List (List ℕ)). Decides c.in_ok-leads.leads (AllLead c.args.program.now c.args.starts.now steps)) c.as_slice.ensures.items c.in_ok-leads.ensures.decides

pub returns-clause-answers : goal.returns-clause-answers
returns-clause-answers c = record {
  paths = answers_more c.args.program.now c.args.starts.now c.args.answers.now.paths c.insert.new.self c.in_ok-path.path c.args.steps.now c.in_ok-leads.leads c.in_ok-insert.ensures.updates.0
      c.in_ok-path.ensures.same c.requires.answers.paths
      (subst (λ (steps : List (List ℕ)). Decides c.in_ok-leads.leads (AllLead c.args.program.now c.args.starts.now steps)) c.as_slice.ensures.items c.in_ok-leads.ensures.decides);
  prefixes = c.walk.ensures.prefixes;
}
