use Rattle.std.proofs.Common.{refl}
use Rattle.gt_tables.proofs.forms.switch_row.Goals as goal

pub returns-clause-row : goal.returns-clause-row
returns-clause-row c = (c.in_ok-desc_expr.field-0, refl, c.in_ok-desc_expr.ensures.is, c.in_ok-desc_expr.ensures.ordered)
