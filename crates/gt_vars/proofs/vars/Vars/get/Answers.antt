use Rattle.std.proofs.Common.{sym, ap, ◌∙◌}
use Rattle.gt_next.specs.States.{meaning}
use Rattle.gt_vars.proofs.VarsEntries.{meaning-variables_of}
use Rattle.gt_vars.proofs.vars.Vars.get.Goals as goal

pub returns : goal.returns
returns c = record {
  meaning =
      c.copied.ensures ∙ c.get.ensures.value ∙ sym (meaning-variables_of c.self.inside.addresses.entries c.args.name.now)
      ∙ ap (λ v. meaning v c.args.name.now) c.self.view_is;
}
