use Rattle.std.proofs.Common.{ap, ◌∙◌}
use Rattle.gt_next.specs.States.{without_variable}
use Rattle.gt_vars.proofs.Unbound.{variables_of-removed}
use Rattle.gt_vars.proofs.vars.Vars.unbind.Goals as goal

pub returns : goal.returns
returns c = record {
  unbound =
      variables_of-removed c.self.inside.addresses.entries c.remove.new.self.entries c.args.name.now c.remove.ensures.updates.0
      ∙ ap (λ v. without_variable v c.args.name.now) c.self.view_is;
}
