use Rattle.std.proofs.Common.{sym, subst}
use Rattle.gt_edges.specs.Walks.{IsRowExpr}
use Rattle.gt_tables.specs.Building.{around_of}
use Rattle.gt_tables.specs.Leaves.{IsTranslated}
use Rattle.gt_tables.specs.Ordered.{IsOrdered}
use Rattle.gt_tables.proofs.Translating.{of-all, ordered-all}
use Rattle.gt_tables.proofs.expressions.row_expr.Goals as goal

pub returns : goal.returns
returns c =
    let source = c.args.source.now in
    let around = c.args.around in
    let leaves = c.translate.new.leaves.items in
    let e = c.args.e.now in
    let x = c.in_ok-expr.expr in
    let translated = subst (λ old. IsTranslated source around old leaves e x) c.new-leaves.ensures.items c.in_ok-expr.ensures in
    let all = of-all source around leaves e x translated in
    record {
      is = subst (λ l. IsRowExpr source.program.now source.layouts.now (around_of around) e (record { expr = x; leaves = l })) (sym c.of.ensures.items) all;
      ordered = subst (λ l. IsOrdered (record { expr = x; leaves = l })) (sym c.of.ensures.items) (ordered-all source around leaves e x translated);
    }
