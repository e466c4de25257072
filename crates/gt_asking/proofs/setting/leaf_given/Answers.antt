use Rattle.std.proofs.Common.{ap, sym, subst, ◌∙◌}
use Rattle.gt_next.specs.States.{meaning}
use Rattle.gt_next.specs.Leaves.{IsUnboundValue}
use Rattle.gt_asking.proofs.setting.leaf_given.Goals as goal

pub returns-in-None : goal.returns-in-None
returns-in-None c = record {
  given = λ told s st. subst (IsUnboundValue s) (sym c.in-Var.is) (IsUnboundValue.unbound (ap (λ v. meaning v c.in-Var.name) st.holds.variables ∙ sym c.get-in-Var.ensures.meaning ∙ c.in-None.is));
}
