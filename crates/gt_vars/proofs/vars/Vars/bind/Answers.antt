use Rattle.std.proofs.Common.{ap, ◌∙◌}
use Rattle.gt_next.specs.States.{with_variable}
use Rattle.gt_vars.proofs.VarsEntries.{variables_of-put}
use Rattle.gt_vars.proofs.vars.Vars.bind.Goals as goal

pub returns-clause-bound : goal.returns-clause-bound
returns-clause-bound c =
    variables_of-put c.self.inside.addresses.entries c.insert.new.self.entries c.in_ok-name.name c.args.address c.in_ok-insert.ensures.updates.0
    ∙ ap (λ m. with_variable m c.in_ok-name.name c.args.address) c.self.view_is
    ∙ ap (λ s. with_variable c.args.self.now s c.args.address) c.in_ok-name.ensures.same
