use Rattle.std.proofs.Common.{sym, ◌∙◌}
use Rattle.gt_script.proofs.StepTexts.{nothing_in, has_first, are_left, first_in}
use Rattle.gt_script.proofs.steps.Hops.take_first.Goals as goal

pub returns-in_default-clause-taken : goal.returns-in_default-clause-taken
returns-in_default-clause-taken c =
    let nothing = nothing_in c.self.inside.rest.now c.in_default.ensures.first in
    (sym c.self.view_is ∙ nothing, sym c.self.view_is ∙ nothing)

pub unreachable-requires : goal.unreachable-requires
unreachable-requires c =
    has_first c.self.inside.rest.now c.in-Some.step.now c.in-Some.after.now c.in-Some.ensures.first c.in-Some.ensures.after c.self.invariant (sym c.in_ok-hop.ensures ∙ c.in_default-2.is)

pub invariant_of-self : goal.invariant_of-self
invariant_of-self c =
    are_left c.self.inside.rest.now c.in-Some.step.now c.in-Some.after.now c.in-Some.ensures.first c.in-Some.ensures.after c.self.invariant c.in-Some-2.hop (sym c.in_ok-hop.ensures ∙ c.in-Some-2.is)

pub returns-clause-taken : goal.returns-clause-taken
returns-clause-taken c =
    sym c.self.view_is
    ∙ first_in c.self.inside.rest.now c.in-Some.step.now c.in-Some.after.now c.in-Some.ensures.first c.in-Some.ensures.after c.self.invariant c.in-Some-2.hop (sym c.in_ok-hop.ensures ∙ c.in-Some-2.is)
