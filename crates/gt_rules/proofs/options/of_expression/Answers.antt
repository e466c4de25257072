use Rattle.std.proofs.Common.{sym}
use Rattle.std.specs.Prelude.{not}
use Rattle.std.proofs.lemmas.Bool.Decides.{Decides-not}
use Rattle.gt_markers.specs.declared.TheConstants.{BAD_PATH}
use Rattle.gt_rules.specs.Parts.{Serves}
use Rattle.gt_rules.proofs.PartLemmas.{no_option, one_option}
use Rattle.gt_rules.proofs.options.of_expression.Goals as goal

pub returns-in_default-clause-first : goal.returns-in_default-clause-first
returns-in_default-clause-first c =
    no_option c.args.options.of_field c.args.options.options.now c.args.name.now (λ o. ¬ Serves c.args.known.draft.now c.args.known.program.now c.args.checks.now.node c.args.purpose o.parameter) BAD_PATH c.args.options.file
    c.args.earliest (sym c.in_default.ensures.read)

pub returns-clause-first : goal.returns-clause-first
returns-clause-first c =
    one_option c.args.options.of_field c.args.options.options.now c.args.name.now (λ o. ¬ Serves c.args.known.draft.now c.args.known.program.now c.args.checks.now.node c.args.purpose o.parameter) BAD_PATH c.args.options.file
    c.in-Some.option.now (not c.in_ok-good.good) c.args.earliest c.with_fault.result (sym c.in-Some.ensures.read) c.with_fault.ensures.same (Decides-not c.in_ok-good.good c.in_ok-good.ensures.decides)
