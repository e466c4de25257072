use Rattle.std.proofs.Common.{sym, false}
use Rattle.std.specs.Prelude.{not, codes}
use Rattle.std.proofs.lemmas.Bool.Decides.{Decides-not}
use Rattle.gt_types.specs.Settled.{EndsInPointers}
use Rattle.gt_markers.specs.declared.TheConstants.{WRONG_PLACE}
use Rattle.gt_rules.proofs.PartLemmas.{no_option, one_option}
use Rattle.gt_rules.proofs.options.of_root_reorder.Goals as goal

pub returns-in_default : goal.returns-in_default
returns-in_default c = record {
  first =
      no_option false c.args.options.options.now (codes "reorder") (λ o. ¬ EndsInPointers c.args.program.now c.args.node) WRONG_PLACE c.args.options.file c.args.earliest
      (sym c.in_default.ensures.read);
}

pub returns : goal.returns
returns c = record {
  first =
      one_option false c.args.options.options.now (codes "reorder") (λ o. ¬ EndsInPointers c.args.program.now c.args.node) WRONG_PLACE c.args.options.file c.in-Some.option.now
      (not c.ends_in_pointers-sortable.result) c.args.earliest c.with_fault.result (sym c.in-Some.ensures.read) c.with_fault.ensures.same
      (Decides-not c.ends_in_pointers-sortable.result c.ends_in_pointers-sortable.ensures.decides);
}
