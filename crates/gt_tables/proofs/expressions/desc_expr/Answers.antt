use Rattle.std.proofs.Common.{sym, subst}
use Rattle.gt_types.specs.declared.expressions.Expr.TheVariants.{Root}
use Rattle.gt_tables.specs.Ordered.{IsOrdered}
use Rattle.gt_tables.proofs.Translating.{ordered-none}
use Rattle.gt_tables.proofs.expressions.desc_expr.Goals as goal

pub returns-in-None-clause-ordered : goal.returns-in-None-clause-ordered
returns-in-None-clause-ordered c = subst (λ l. IsOrdered (record { expr = Root 4294967295; leaves = l })) (sym c.new.ensures.empty) ordered-none
