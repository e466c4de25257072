use Rattle.std.proofs.Common.{◌≤◌, ◌∙◌, length, subst}
use Rattle.gt_scope.specs.Declarations.{Progress}
use Rattle.gt_scope.proofs.DeclaringLemmas.{few-next}
use Rattle.gt_scope.proofs.declaring.Declaring.declare_tag.Goals as goal

pub invariant_of-self : goal.invariant_of-self
invariant_of-self c = (
  c.self-2.invariant.0,
  few-next c.args.file c.args.s.now.tag _ c.args.self.now _ (c.self-2.view_is ∙ c.in_ok-declare.ensures)
      (subst (λ (p : Progress). p.structures ≤ length p.done) c.self.view_is c.self.invariant.1),
  c.self-2.invariant.2,
)
