use Rattle.std.proofs.Common.{◌∙◌, List, true, subst}
use Rattle.std.specs.Prelude.{codes}
use Rattle.gt_items.specs.declared.items.RawOption.{RawOption}
use Rattle.gt_paths.specs.Checks.{Checked}
use Rattle.gt_rules.specs.declared.purposes.Purpose.TheVariants.{Own}
use Rattle.gt_rules.specs.Parts.{ExpressionFault, FieldDescFault, FieldFaultsBy, IsFirstWith, Serves}
use Rattle.gt_rules.proofs.FirstLemmas.{first_of_both}
use Rattle.gt_rules.proofs.fields.of_field.Goals as goal

pub returns-clause-first : goal.returns-clause-first
returns-clause-first c =
    let field = c.args.field.now in
    let draft = c.args.known.draft.now in
    let program = c.args.known.program.now in
    let options = c.as_slice.result.now in
    let second =
    subst (λ (k : Checked). IsFirstWith c.in_ok-earliest.earliest (ExpressionFault (Serves draft program k.node Own) true options (codes "string_length") c.args.file) c.in_ok-earliest-2.earliest)
    c.of_expression.ensures.same c.in_ok-earliest-2.ensures.first in
    let third =
    subst (λ (k : Checked). IsFirstWith c.in_ok-earliest-2.earliest (FieldDescFault draft program k.node true options c.args.made.now.ty c.args.file) c.in_ok-earliest-3.earliest)
    (c.of_expression-2.ensures.same ∙ c.of_expression.ensures.same) c.in_ok-earliest-3.ensures.first in
    subst
    (λ (os : List RawOption). IsFirstWith c.args.earliest
    (FieldFaultsBy draft program c.args.checks.now.node c.args.file field.name.at field.ty c.args.made.now.ty os) c.of_reorder.result)
    c.as_slice.ensures.items
    (first_of_both c.of_type-earliest.ensures.first
    (first_of_both c.in_ok-earliest.ensures.first (first_of_both second (first_of_both third c.of_reorder.ensures.first))))
