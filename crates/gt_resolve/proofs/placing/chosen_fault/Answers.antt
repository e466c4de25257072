use Rattle.std.proofs.Common.{◌∙◌, ap, sym}
use Rattle.gt_resolve.specs.Placings.{chosen, faults_from}
use Rattle.gt_resolve.proofs.PlacingLemmas.{found_is, not_found_is}
use Rattle.gt_resolve.proofs.placing.chosen_fault.Goals as goal

pub returns-in-Ok : goal.returns-in-Ok
returns-in-Ok c =
    let faults = faults_from c.args.tags 1 c.args.files.now in
    record { fault = found_is faults c.in-Some.place c.in-Ok.fault c.in-Ok.ensures.item ∙ ap (chosen faults) (sym c.in-Some.is) }

pub returns-in-Err : goal.returns-in-Err
returns-in-Err c =
    let faults = faults_from c.args.tags 1 c.args.files.now in
    record { fault = not_found_is faults c.in-Some.place c.in-Err.field-0 c.in-Err.ensures.item ∙ ap (chosen faults) (sym c.in-Some.is) }
