use Rattle.std.proofs.Common.{sym}
use Rattle.std.specs.Prelude.{codes}
use Rattle.std.proofs.lemmas.Result.{IfOk-weaker}
use Rattle.gt_types.specs.declared.types.TypeId.{TypeId}
use Rattle.gt_rules.specs.declared.purposes.RootPurpose.TheVariants.{Desc}
use Rattle.gt_rules.specs.Faults.{held_node}
use Rattle.gt_rules.specs.Parts.{ExpressionFault, IsFirstWith, OfHeld, ServesRoot}
use Rattle.gt_rules.proofs.PartLemmas.{nothing_held, one_held}
use Rattle.gt_rules.proofs.roots.of_desc.Goals as goal

pub returns-in-None : goal.returns-in-None
returns-in-None c =
    let faults = λ (held : TypeId). ExpressionFault (ServesRoot c.args.known.draft.now c.args.known.program.now (Desc held)) c.args.options.of_field c.args.options.options.now (codes "desc") c.args.options.file in
    record { first = nothing_held (held_node c.args.declared.now) faults c.args.earliest (sym c.in-None.ensures.held) }

pub returns-in-Some : goal.returns-in-Some
returns-in-Some c =
    let faults = λ (held : TypeId). ExpressionFault (ServesRoot c.args.known.draft.now c.args.known.program.now (Desc held)) c.args.options.of_field c.args.options.options.now (codes "desc") c.args.options.file in
    record {
      first =
          IfOk-weaker c.of_root_expression.result (IsFirstWith c.args.earliest (faults c.in-Some.held)) (IsFirstWith c.args.earliest (OfHeld (held_node c.args.declared.now) faults))
          (λ r first. one_held (held_node c.args.declared.now) faults c.in-Some.held c.args.earliest r (sym c.in-Some.ensures.held) first) c.of_root_expression.ensures.first;
    }
