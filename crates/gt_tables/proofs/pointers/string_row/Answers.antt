use Rattle.std.proofs.Common.{◌≡◌, ◌<◌, ◌∙◌, ap, sym, subst, arith, Some, false}
use Rattle.gt_types.specs.declared.types.Ty.TheVariants as ty
use Rattle.gt_walk.specs.declared.rows.Count.TheVariants as count
use Rattle.gt_walk.specs.declared.rows.WalkRow.TheVariants as row
use Rattle.gt_tree.specs.Blocks.{Chars}
use Rattle.gt_edges.specs.Numbers.{walk_of}
use Rattle.gt_edges.specs.Walks.{IsPointerRow, string}
use Rattle.gt_tables.specs.Building.{IsPointerRow as NamesBlocks, first_of}
use Rattle.gt_tables.proofs.Growing.{pointer-fixed}
use Rattle.gt_tables.proofs.pointers.string_row.Goals as goal

pub returns-clause-serves : goal.returns-clause-serves
returns-clause-serves c around len =
    let program = c.args.source.now.program.now in
    let bare : c.bare_walk.result ≡ walk_of program Chars = omega (arith, c.bare_walk.ensures, c.requires.source.count) in
    let is = c.row_to.ensures ∙ ap (λ walk. row.Ptr c.args.offset walk (count.Fixed 0) false) bare in
    subst (λ r. IsPointerRow program c.args.source.now.layouts.now around (ty.Str len) c.args.offset (Some r)) (sym is) string

pub returns-clause-row : goal.returns-clause-row
returns-clause-row c =
    let first = first_of c.args.source.now in
    let lt : c.bare_walk.result < first = omega (arith, c.bare_walk.ensures, c.requires.source.count) in
    subst (NamesBlocks first) (sym c.row_to.ensures) (pointer-fixed first c.args.offset c.bare_walk.result 0 false lt)
