use Rattle.std.proofs.Common.{ap, sym, ◌∙◌, Some}
use Rattle.std.specs.Option.{option_map}
use Rattle.gt_walk.specs.declared.rows.WalkRow.TheVariants as row
use Rattle.gt_tables.proofs.forms.tail_row.Goals as goal

pub returns : goal.returns
returns c =
    let len = c.in_ok-row_expr.field-0 in (
      len,
      ap (λ e. Some (row.Tail c.args.offset len c.args.size e)) c.in_ok-new.ensures ∙ ap (option_map (row.Tail c.args.offset len c.args.size)) (sym c.in-Some.is),
      λ _. c.in_ok-row_expr.ensures.is,
      λ _. c.in_ok-row_expr.ensures.ordered,
    )
