use Rattle.gt_paths.proofs.ByStep.{of_no_place, of_places}
use Rattle.gt_paths.proofs.steps.+chain.Goals as goal

pub leads_to_pointer-returns-in-None : goal.leads_to_pointer-returns-in-None
leads_to_pointer-returns-in-None t c = record {
  decides = of_no_place c.args.program.now c.args.own c.args.node c.args.places.now _ c.in-len1-up.len_at_least c.in-None.ensures.step;
}

pub leads_to_pointer-returns-in-Some : goal.leads_to_pointer-returns-in-Some
leads_to_pointer-returns-in-Some t c = record {
  decides = of_places c.args.program.now c.args.own c.args.node c.args.places.now _ c.in-Some.ty.now c.pointer_goes_on.result c.in-len1-up.len_at_least c.in-Some.ensures.step
      c.pointer_goes_on.ensures.decides;
}
