use Rattle.std.proofs.Common.{sym, ◌∙◌, false}
use Rattle.gt_paths.proofs.ByStep.{named_at, none_more, none_named, not_named, of_steps, one_named, place_goes_on, place_ends}
use Rattle.gt_paths.proofs.Lists.{rest_of}
use Rattle.gt_paths.proofs.steps.+leads.Goals as goal

pub leads_to_number-returns-then-not-is_distinct : goal.leads_to_number-returns-then-not-is_distinct
leads_to_number-returns-then-not-is_distinct t c = record {
  decides = of_steps c.args.program.now c.args.node c.args.steps.now c.step-item.result c.some_field_leads.result c.in-len1-up.len_at_least c.step-item.is c.some_field_leads.ensures.decides;
}

pub leads_to_number-returns-in-None : goal.leads_to_number-returns-in-None
leads_to_number-returns-in-None t c = record {
  decides = of_steps c.args.program.now c.args.node c.args.steps.now c.step-item.result false c.in-len1-up.len_at_least c.step-item.is
      (not_named c.args.program.now c.args.node c.step-item.result (rest_of c.args.steps.now) (c.in-None.ensures.place c.args.program.now.structures c.requires.index.names));
}

pub leads_to_number-returns-in-Some : goal.leads_to_number-returns-in-Some
leads_to_number-returns-in-Some t c = record {
  decides = of_steps c.args.program.now c.args.node c.args.steps.now c.step-item.result c.place_leads.result c.in-len1-up.len_at_least c.step-item.is
      (named_at c.args.program.now c.args.node c.step-item.result (rest_of c.args.steps.now) c.in-Some.place c.place_leads.result
      (c.requires.index.distinct (sym c.is_distinct.ensures.distinct ∙ c.if-not-is_distinct.false)) (c.in-Some.ensures.place c.args.program.now.structures c.requires.index.names)
      c.place_leads.ensures.decides);
}

pub some_field_leads-loop-place-preserved : goal.some_field_leads-loop-place-preserved
some_field_leads-loop-place-preserved t c =
    none_more c.args.program.now c.args.node c.args.step.now c.args.rest.now c.as_slice-f-items.result.now c.loop-place.place c.f-item.result c.field_leads.result c.loop-place-test.true c.f-item.is
    c.field_leads.ensures.decides c.if-field_leads.false c.loop-place.invariant

pub some_field_leads-returns-then-field_leads : goal.some_field_leads-returns-then-field_leads
some_field_leads-returns-then-field_leads t c = record {
  decides = one_named c.args.program.now c.args.node c.args.step.now c.args.rest.now c.in-Some.s.now c.as_slice-f-items.result.now c.loop-place.place c.f-item.result c.field_leads.result
      (sym c.in-Some.ensures.structure) c.as_slice-f-items.ensures.items c.loop-place-test.true c.f-item.is c.field_leads.ensures.decides c.if-field_leads.true;
}

pub some_field_leads-returns : goal.some_field_leads-returns
some_field_leads-returns t c = record {
  decides = none_named c.args.program.now c.args.node c.args.step.now c.args.rest.now c.in-Some.s.now c.as_slice-f-items.result.now c.loop-place.place (sym c.in-Some.ensures.structure)
      c.as_slice-f-items.ensures.items c.loop-place-test.false c.loop-place.invariant;
}

pub place_leads-returns-in-None : goal.place_leads-returns-in-None
place_leads-returns-in-None t c = record { decides = place_ends c.args.program.now c.args.node c.args.rest.now c.args.place c.in-None.ensures.step }

pub place_leads-returns-in-Some : goal.place_leads-returns-in-Some
place_leads-returns-in-Some t c = record {
  decides = place_goes_on c.args.program.now c.args.node c.args.rest.now c.args.place c.in-Some.ty.now c.goes_on.result c.in-Some.ensures.step c.goes_on.ensures.decides;
}
