use Rattle.std.proofs.Common.{sym, ◌∙◌}
use Rattle.gt_script.proofs.Walks.{first_cut, after_begins}
use Rattle.gt_script.proofs.Boundaries.{step_boundary, after_step_utf8}
use Rattle.gt_script.proofs.steps.first_step.Goals as goal

pub split_at-requires : goal.split_at-requires
split_at-requires c = step_boundary c.args.text.now c.in-Some.others.now c.in-Some.field-0-0 c.step_place.result (sym c.as_bytes.ensures.value ∙ c.in-Some.ensures) c.step_place.ensures.place

pub returns-clause-first : goal.returns-clause-first
returns-clause-first c =
    first_cut c.args.text.now c.in-Some.others.now c.in-Some.field-0-0 c.step_place.result (sym c.as_bytes.ensures.value ∙ c.in-Some.ensures) c.requires.begins c.step_place.ensures.place c.split_at.result.0.now c.split_at.result.1.now c.split_at.ensures.front c.split_at.ensures.back

pub returns-clause-after : goal.returns-clause-after
returns-clause-after c =
    after_begins c.args.text.now c.in-Some.others.now c.in-Some.field-0-0 c.step_place.result (sym c.as_bytes.ensures.value ∙ c.in-Some.ensures) c.requires.begins c.step_place.ensures.place c.split_at.result.1.now c.split_at.ensures.back

pub returns-clause-utf8 : goal.returns-clause-utf8
returns-clause-utf8 c =
    after_step_utf8 c.args.text.now c.in-Some.others.now c.split_at.result.1.now c.in-Some.field-0-0 c.step_place.result c.utf8.text (sym c.as_bytes.ensures.value ∙ c.in-Some.ensures) c.step_place.ensures.place c.split_at.ensures.back
