use Rattle.std.proofs.Common.{◌∙◌, true, false, ap, sym}
use Rattle.gt_drafts.specs.FirstFaults.{earlier_of}
use Rattle.gt_resolve.specs.Placings.{chosen, faults_from}
use Rattle.gt_resolve.proofs.PlacingLemmas.{first_of_two, first_with}
use Rattle.gt_resolve.proofs.placing.place.Goals as goal

pub returns-in-Some : goal.returns-in-Some
returns-in-Some c =
    let of_structure = chosen (faults_from true 1 c.args.files.now) c.args.structure in
    let of_root = chosen (faults_from false 1 c.args.files.now) c.args.root in
    record {
      earliest =
          first_of_two of_structure of_root c.earlier.result
          (first_with of_structure of_root c.in-Some.fault c.earlier.result (sym c.in-Some.ensures.fault)
          (ap (λ found. earlier_of found c.in-Some.fault) (sym c.chosen_fault-of_structure.ensures.fault) ∙ c.earlier.ensures.earlier));
    }
