use Rattle.std.proofs.Common.{subst, sym, ◌≡◌, ◌∙◌, ap}
use Rattle.std.specs.Prelude.{Ok, Err}
use Rattle.gt_types.specs.Settled.{Settled}
use Rattle.gt_types.specs.Contains.{HasStructure}
use Rattle.gt_routes.proofs.Fields.{structure-there}
use Rattle.gt_routes.proofs.hops.name_step.Goals as goal

pub common_step-requires-clause-inactive : goal.common_step-requires-clause-inactive
common_step-requires-clause-inactive c = c.member_step.ensures.inactive (c.in-Ok-None.is ∙ ap Ok c.in-Ok-None.field-0-is)

pub returns-in-Ok-Some-clause-leads : goal.returns-in-Ok-Some-clause-leads
returns-in-Ok-Some-clause-leads c = c.member_step.ensures.leads c.in-Ok-Some.step (c.in-Ok-Some.is ∙ ap Ok c.in-Ok-Some.field-0-is)

pub returns-in-Err-clause-refused : goal.returns-in-Err-clause-refused
returns-in-Err-clause-refused c why e = let same : c.in-Err.why ≡ why = cc in c.member_step.ensures.refused why (c.in-Err.is ∙ ap Err same)

pub unreachable-requires : goal.unreachable-requires
unreachable-requires c =
    let s = c.requires.stands in
    let there = structure-there s.at s.value s.path c.args.at.now s.stands (subst Settled (sym s.program_is) c.requires.settled) c.args.node c.requires.node.0 c.requires.node.1 in
    let has = subst (λ x. HasStructure x c.args.node there.0) s.program_is there.1 in
    let none = c.in_default.ensures.item in
    cc
