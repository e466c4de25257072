use Rattle.std.proofs.Common.{sym, true}
use Rattle.std.specs.Prelude.{not, codes}
use Rattle.std.proofs.lemmas.Bool.Decides.{Decides-not}
use Rattle.gt_types.specs.Settled.{NamesSortable}
use Rattle.gt_markers.specs.declared.TheConstants.{WRONG_PLACE}
use Rattle.gt_rules.proofs.PartLemmas.{no_option, one_option}
use Rattle.gt_rules.proofs.options.of_reorder.Goals as goal

pub returns-in_default : goal.returns-in_default
returns-in_default c = record {
  first =
      no_option true c.args.options.options.now (codes "reorder") (λ o. ¬ NamesSortable c.args.program.now c.args.ty.now) WRONG_PLACE c.args.options.file c.args.earliest
      (sym c.in_default.ensures.read);
}

pub returns : goal.returns
returns c = record {
  first =
      one_option true c.args.options.options.now (codes "reorder") (λ o. ¬ NamesSortable c.args.program.now c.args.ty.now) WRONG_PLACE c.args.options.file c.in-Some.option.now
      (not c.names_sortable-sortable.result) c.args.earliest c.with_fault.result (sym c.in-Some.ensures.read) c.with_fault.ensures.same
      (Decides-not c.names_sortable-sortable.result c.names_sortable-sortable.ensures.decides);
}
