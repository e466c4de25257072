use Rattle.std.proofs.Common.{sym}
use Rattle.std.specs.Prelude.{codes}
use Rattle.std.proofs.lemmas.Result.{IfOk-weaker}
use Rattle.gt_types.specs.declared.types.TypeId.{TypeId}
use Rattle.gt_types.specs.Contains.{held_by}
use Rattle.gt_rules.specs.declared.purposes.Purpose.TheVariants.{FieldDesc}
use Rattle.gt_rules.specs.Parts.{ExpressionFault, IsFirstWith, OfHeld, Serves}
use Rattle.gt_rules.proofs.PartLemmas.{nothing_held, one_held}
use Rattle.gt_rules.proofs.fields.of_desc.Goals as goal

pub returns-in-None-clause-first : goal.returns-in-None-clause-first
returns-in-None-clause-first c =
    let faults = λ (held : TypeId). ExpressionFault (Serves c.args.known.draft.now c.args.known.program.now c.args.checks.now.node (FieldDesc held)) c.args.options.of_field c.args.options.options.now (codes "desc") c.args.options.file in
    nothing_held (held_by c.args.ty.now) faults c.args.earliest (sym c.in-None.ensures.held)

pub returns-in-Some-clause-first : goal.returns-in-Some-clause-first
returns-in-Some-clause-first c =
    let faults = λ (held : TypeId). ExpressionFault (Serves c.args.known.draft.now c.args.known.program.now c.args.checks.now.node (FieldDesc held)) c.args.options.of_field c.args.options.options.now (codes "desc") c.args.options.file in
    IfOk-weaker c.of_expression.result (IsFirstWith c.args.earliest (faults c.in-Some.held)) (IsFirstWith c.args.earliest (OfHeld (held_by c.args.ty.now) faults))
    (λ r first. one_held (held_by c.args.ty.now) faults c.in-Some.held c.args.earliest r (sym c.in-Some.ensures.held) first) c.of_expression.ensures.first
