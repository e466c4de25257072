use Rattle.std.proofs.Common.{ap, sym, ◌∙◌}
use Rattle.gt_next.specs.States.{meaning}
use Rattle.gt_next.specs.Next.{NextDrop}
use Rattle.gt_asking.proofs.Bindings.{dropped-session}
use Rattle.gt_asking.proofs.dropping.unbind.Goals as goal

pub returns-in-Some-clause-next : goal.returns-in-Some-clause-next
returns-in-Some-clause-next c told s st = dropped-session c.args.s.now told s st c.args.var.now c.unbind.new.self c.in-Some.field-0 (sym c.get.ensures.meaning ∙ c.in-Some.is) c.unbind.ensures.unbound

pub returns-in-None-clause-next : goal.returns-in-None-clause-next
returns-in-None-clause-next c told s st = (s, NextDrop.unbound (ap (λ v. meaning v c.args.var.now) st.holds.variables ∙ sym c.get.ensures.meaning ∙ c.in-None.is), st)
