use Rattle.std.proofs.Common.{◌≡◌, ◌∙◌, ℕ, List, ap, sym, subst}
use Rattle.std.specs.Prelude.{IfOk}
use Rattle.std.specs.Bool.{Decides}
use Rattle.std.proofs.lemmas.Result.{IfOk-weaker}
use Rattle.gt_types.specs.declared.expressions.Base.TheVariants.{Outer}
use Rattle.gt_types.specs.Paths.{PathFitsBeside}
use Rattle.gt_paths.specs.declared.containers.Containers.{Containers}
use Rattle.gt_paths.specs.Checks.{Checked, checked, inner_of}
use Rattle.gt_paths.specs.Containers.{containers_of}
use Rattle.gt_paths.specs.OuterPaths.{AllLead, AreAnswers}
use Rattle.gt_paths.proofs.Fitting.{containers_lead}
use Rattle.gt_paths.proofs.checks.PathChecks.leads_from_containers.Goals as goal

pub each_leads-requires-clause-answers : goal.each_leads-requires-clause-answers
each_leads-requires-clause-answers c =
    let same : c.of-starts.result.now ≡ containers_of c.self.inside.index.now.containers c.self.inside.node.0 = c.of-starts.ensures.containers ∙ ap (λ (k : Containers). containers_of k c.self.inside.node.0) c.containers.ensures.containers in
    subst (λ (starts : List ℕ). AreAnswers c.self.inside.program.now starts c.self.inside.answers) (sym same) c.self.invariant.for_containers

pub invariant_of-self : goal.invariant_of-self
invariant_of-self c =
    let same : c.of-starts.result.now ≡ containers_of c.self.inside.index.now.containers c.self.inside.node.0 = c.of-starts.ensures.containers ∙ ap (λ (k : Containers). containers_of k c.self.inside.node.0) c.containers.ensures.containers in
    record {
      index_on = c.self.invariant.index_on;
      for_containers = subst (λ (starts : List ℕ). AreAnswers c.self.inside.program.now starts c.each_leads.new.answers) same c.each_leads.ensures.answers;
      around = c.self.invariant.around;
    }

pub returns-clause-decides : goal.returns-clause-decides
returns-clause-decides c =
    let same : c.of-starts.result.now ≡ containers_of c.self.inside.index.now.containers c.self.inside.node.0 = c.of-starts.ensures.containers ∙ ap (λ (k : Containers). containers_of k c.self.inside.node.0) c.containers.ensures.containers in
    let here : Checked = checked c.self.inside.program.now c.self.inside.index.now c.self.inside.node in
    subst (λ (v : Checked). IfOk c.each_leads.result (λ r. Decides r (PathFitsBeside (inner_of v) v.program v.node Outer c.args.steps.now))) c.self.view_is
    (IfOk-weaker c.each_leads.result (λ r. Decides r (AllLead c.self.inside.program.now c.of-starts.result.now c.args.steps.now))
    (λ r. Decides r (PathFitsBeside (inner_of here) here.program here.node Outer c.args.steps.now))
    (λ r decides. containers_lead (inner_of here) c.self.inside.program.now c.self.inside.index.now.containers c.self.inside.node c.of-starts.result.now c.args.steps.now r c.self.invariant.index_on.containers same decides)
    c.each_leads.ensures.decides)
