use Rattle.std.proofs.Common.{sym, subst}
use Rattle.std.proofs.lemmas.Bool.Decides.{not_from_Decides}
use Rattle.gt_next.specs.States.{IsFullOfVariables}
use Rattle.gt_next.specs.Next.{Answers}
use Rattle.gt_asking.proofs.Bindings.{bound-session}
use Rattle.gt_asking.proofs.getting.bind.Goals as goal

pub returns-then-is_full-clause-bound : goal.returns-then-is_full-clause-bound
returns-then-is_full-clause-bound c told s st =
    (s, Answers.too_many (subst (λ v. IsFullOfVariables v c.args.var.now) (sym st.holds.variables) (c.is_full.ensures.full.0 c.if-is_full.true)), st)

pub returns-clause-bound : goal.returns-clause-bound
returns-clause-bound c told s st =
    let o = c.requires.object told s st in
    bound-session c.args.s.now told s st c.args.var.now c.bind.new.self c.args.addr o.0 o.1 (not_from_Decides c.is_full.result c.is_full.ensures.full c.if-is_full.false) c.in_ok-bind.ensures.bound
