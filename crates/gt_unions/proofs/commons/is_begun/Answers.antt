use Rattle.std.proofs.Common.{◌∙◌, sym}
use Rattle.gt_unions.proofs.Candidates.{begun_if}
use Rattle.gt_unions.proofs.commons.is_begun.Goals as goal

pub returns-in-Some : goal.returns-in-Some
returns-in-Some c =
    begun_if c.args.program.now c.args.f.now c.in-Some.outer c.args.node c.begins_with.result (sym c.may_be_active.ensures ∙ c.if-not-may_be_active.false) (sym c.in-Some.ensures) c.begins_with.ensures
