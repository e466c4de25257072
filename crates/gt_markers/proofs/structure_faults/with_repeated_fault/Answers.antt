use Rattle.std.proofs.Common.{◌∙◌, sym, ap, Option}
use Rattle.gt_items.specs.declared.items.RawOption.{RawOption}
use Rattle.gt_drafts.specs.FirstFaults.{first_from}
use Rattle.gt_markers.specs.MarkerFaults.{repeated_fault}
use Rattle.gt_markers.proofs.Firsts.{first_from_nil}
use Rattle.gt_markers.proofs.structure_faults.with_repeated_fault.Goals as goal

pub returns-in-None : goal.returns-in-None
returns-in-None c =
    let e = c.args.earliest in
    record {
      earliest =
          sym (first_from_nil e) ∙ ap (λ (o : Option RawOption). first_from e (repeated_fault c.args.repeated c.args.file o)) c.in-None.ensures.first;
    }
