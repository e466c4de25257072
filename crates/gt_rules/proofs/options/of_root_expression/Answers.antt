use Rattle.std.proofs.Common.{sym}
use Rattle.std.specs.Prelude.{not}
use Rattle.std.proofs.lemmas.Bool.Decides.{Decides-not}
use Rattle.gt_markers.specs.declared.TheConstants.{BAD_PATH}
use Rattle.gt_rules.specs.Parts.{ServesRoot}
use Rattle.gt_rules.proofs.PartLemmas.{no_option, one_option}
use Rattle.gt_rules.proofs.options.of_root_expression.Goals as goal

pub returns-in_default : goal.returns-in_default
returns-in_default c = record {
  first =
      no_option c.args.options.of_field c.args.options.options.now c.args.name.now (λ o. ¬ ServesRoot c.args.known.draft.now c.args.known.program.now c.args.purpose o.parameter) BAD_PATH c.args.options.file
      c.args.earliest (sym c.in_default.ensures.read);
}

pub returns : goal.returns
returns c = record {
  first =
      one_option c.args.options.of_field c.args.options.options.now c.args.name.now (λ o. ¬ ServesRoot c.args.known.draft.now c.args.known.program.now c.args.purpose o.parameter) BAD_PATH c.args.options.file
      c.in-Some.option.now (not c.in_ok-good.good) c.args.earliest c.with_fault.result (sym c.in-Some.ensures.read) c.with_fault.ensures.same (Decides-not c.in_ok-good.good c.in_ok-good.ensures.decides);
}
