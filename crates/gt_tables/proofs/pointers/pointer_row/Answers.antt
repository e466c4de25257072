use Rattle.std.proofs.Common.{◌≡◌, ◌<◌, sym, subst, arith, rules, None}
use Rattle.gt_tree.specs.Blocks.{Raw}
use Rattle.gt_edges.specs.Numbers.{walk_of}
use Rattle.gt_tables.specs.Building.{IsPointerRow, first_of, around_of}
use Rattle.gt_tables.proofs.Growing.{pointer-fixed, pointer-counted}
use Rattle.gt_tables.proofs.PointerRows.{of-atomic, of-bare, of-missing, of-undefined, of-single, of-counted}
use Rattle.gt_tables.proofs.pointers.pointer_row.Goals as goal

pub returns-in-Atomic-clause-serves : goal.returns-in-Atomic-clause-serves
returns-in-Atomic-clause-serves c =
    let program = c.args.source.now.program.now in
    let none : c.args.target ≡ None = search rules in
    let bare : c.bare_walk.result ≡ walk_of program Raw = omega (arith, c.bare_walk.ensures, c.requires.source.count) in
    of-atomic program c.args.source.now.layouts.now (around_of c.args.around) c.args.offset c.args.reorder c.args.target c.args.kind.now c.bare_walk.result c.row_to.result none c.in-Atomic.is bare c.row_to.ensures

pub returns-in_default-kind : goal.returns-in_default-kind
returns-in_default-kind c =
    let none : c.args.target ≡ None = search rules in
    record {
      row = tt;
      serves = of-bare c.args.source.now.program.now c.args.source.now.layouts.now (around_of c.args.around) c.args.offset c.args.reorder c.args.target c.args.kind.now none c.in_default-kind.not-Atomic;
    }

pub returns-in_default-target_walk-clause-serves : goal.returns-in_default-target_walk-clause-serves
returns-in_default-target_walk-clause-serves c =
    let none : c.target_walk.result ≡ None = search rules in
    of-missing c.args.source.now.program.now c.args.source.now.layouts.now (around_of c.args.around) c.args.offset c.args.reorder c.args.target c.args.kind.now c.in-Some.target c.in-Some.is
    (c.target_walk.ensures.missing none)

pub returns-in-Plain-clause-serves : goal.returns-in-Plain-clause-serves
returns-in-Plain-clause-serves c =
    of-single c.args.source.now.program.now c.args.source.now.layouts.now (around_of c.args.around) c.args.offset c.args.reorder c.args.target c.args.kind.now c.in-Some.target c.in-Some-target_walk.walk
    c.row_to-in-Plain.result c.in-Some.is c.in-Plain.is c.in-Some-target_walk.ensures.there c.in-Some-target_walk.ensures.is c.row_to-in-Plain.ensures

pub returns-in_ok-row_expr-in-Length-clause-serves : goal.returns-in_ok-row_expr-in-Length-clause-serves
returns-in_ok-row_expr-in-Length-clause-serves c =
    of-counted c.args.source.now.program.now c.args.source.now.layouts.now (around_of c.args.around) c.args.offset c.args.reorder c.args.target c.args.kind.now c.in-Some.target c.in-Some-target_walk.walk
    c.in-Length.len c.in_ok-row_expr-in-Length.field-0 c.row_to-in-Length.result c.in-Some.is c.in-Length.is c.in-Some-target_walk.ensures.there c.in-Some-target_walk.ensures.is
    c.in_ok-row_expr-in-Length.ensures.is c.row_to-in-Length.ensures

pub returns-in-Atomic-kind-clause-serves : goal.returns-in-Atomic-kind-clause-serves
returns-in-Atomic-kind-clause-serves c =
    of-undefined c.args.source.now.program.now c.args.source.now.layouts.now (around_of c.args.around) c.args.offset c.args.reorder c.args.target c.args.kind.now c.in-Some.target c.in-Some.is c.in-Atomic-kind.is

-- ---- the rows themselves

pub returns-in-Atomic-clause-row : goal.returns-in-Atomic-clause-row
returns-in-Atomic-clause-row c =
    let first = first_of c.args.source.now in
    let lt : c.bare_walk.result < first = omega (arith, c.bare_walk.ensures, c.requires.source.count) in
    subst (IsPointerRow first) (sym c.row_to.ensures) (pointer-fixed first c.args.offset c.bare_walk.result 0 c.args.reorder lt)

pub returns-in-Plain-clause-row : goal.returns-in-Plain-clause-row
returns-in-Plain-clause-row c =
    let first = first_of c.args.source.now in
    let walk = c.in-Some-target_walk.walk in
    subst (IsPointerRow first) (sym c.row_to-in-Plain.ensures) (pointer-fixed first c.args.offset walk 1 c.args.reorder c.in-Some-target_walk.ensures.walk)

pub returns-in_ok-row_expr-in-Length-clause-row : goal.returns-in_ok-row_expr-in-Length-clause-row
returns-in_ok-row_expr-in-Length-clause-row c =
    let first = first_of c.args.source.now in
    let walk = c.in-Some-target_walk.walk in
    let e = c.in_ok-row_expr-in-Length.field-0 in
    subst (IsPointerRow first) (sym c.row_to-in-Length.ensures)
    (pointer-counted first c.args.offset walk e c.args.reorder c.in-Some-target_walk.ensures.walk c.in_ok-row_expr-in-Length.ensures.ordered)
