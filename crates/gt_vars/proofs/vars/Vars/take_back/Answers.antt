use Rattle.std.proofs.Common.{sym, ap, ◌∙◌}
use Rattle.gt_next.specs.States.{with_variable}
use Rattle.gt_vars.proofs.VarsEntries.{variables_of-taken, with_variable_same, with_variable_twice}
use Rattle.gt_vars.proofs.vars.Vars.take_back.Goals as goal

pub returns-in-Some : goal.returns-in-Some
returns-in-Some c = record {
  as_before = λ v address bound before.
      c.rebind.ensures.bound ∙ ap (λ w. with_variable w c.args.name.now c.in-Some.address) bound
      ∙ with_variable_twice v c.args.name.now address c.in-Some.address ∙ with_variable_same v c.args.name.now c.in-Some.address (sym c.in-Some.is ∙ before);
}

pub returns-in-None : goal.returns-in-None
returns-in-None c = record {
  as_before = λ v address bound before.
      variables_of-taken c.self.inside.addresses.entries c.remove.new.self.entries v c.args.name.now address c.remove.ensures.updates.0 (c.self.view_is ∙ bound)
      (sym c.in-None.is ∙ before);
}
