use Rattle.std.proofs.Common.{◌∙◌, ◌+◌, ◌++◌, ap, sym, subst, None}
use Rattle.std.specs.Prelude.{option_to_list}
use Rattle.std.proofs.lemmas.List.{append-nil}
use Rattle.gt_layout.specs.Progress.{HoldsWithinDepth}
use Rattle.gt_tree.specs.LeafLaws.{of_root}
use Rattle.gt_edges.specs.Walks.{IsRowOf}
use Rattle.gt_tables.specs.Building.{first_of, parts_of, AreRows, Shallow}
use Rattle.gt_tables.specs.Counting.{Counted, with_site}
use Rattle.gt_tables.proofs.Growing.{rows-note, rows-add}
use Rattle.gt_tables.proofs.Keeping.{some-deeper}
use Rattle.gt_tables.proofs.NamedParts.{noted-parts}
use Rattle.gt_tables.proofs.Wholes.{holds-enough}
use Rattle.gt_tables.proofs.Serving.{root-placed}
use Rattle.gt_tables.proofs.roots.root_rows.Goals as goal

pub returns-clause-rows : goal.returns-clause-rows
returns-clause-rows c =
    let first = first_of c.args.source.now in
    let program = c.args.source.now.program.now in
    let walks = c.type_row.new.parts.walks.items in
    subst (AreRows first walks Shallow) (sym c.in_ok-add_row.ensures)
    (rows-add first walks Shallow c.in_ok-rows.rows.items c.in_ok-row.row
    (subst (AreRows first walks Shallow) (sym c.in_ok-rows.ensures) (rows-note first walks Shallow c.args.source.now.layouts.now.statics.size None))
    (some-deeper first walks (HoldsWithinDepth program c.args.root.now.ty) Shallow (λ depth deep. holds-enough program c.args.root.now.ty c.requires.source.settled c.requires.shallow depth deep)
    c.in_ok-row.row c.in_ok-row.ensures.row))

pub type_row-requires-clause-placed : goal.type_row-requires-clause-placed
type_row-requires-clause-placed c = root-placed c.args.source.now.program.now c.in_root-lies.result c.args.root.now.ty c.in_root-lies.ensures.around c.in_root-lies.ensures.site

pub type_row-requires-clause-typed : goal.type_row-requires-clause-typed
type_row-requires-clause-typed c = of_root c.args.root.now c.requires.root

pub returns-clause-serves : goal.returns-clause-serves
returns-clause-serves c =
    let program = c.args.source.now.program.now in
    let layouts = c.args.source.now.layouts.now in
    let row = c.in_ok-row.row in
    record {
      line = row;
      is = c.in_ok-add_row.ensures ∙ ap (λ l. l ++ option_to_list row) c.in_ok-rows.ensures;
      of_root = λ tables h. subst (λ a. IsRowOf program layouts tables a c.args.root.now.ty c.args.address row) c.in_root-lies.ensures.around (c.in_ok-row.ensures.serves tables h);
    }

pub returns-clause-counted : goal.returns-clause-counted
returns-clause-counted c n own hand h =
    let source = c.args.source.now in
    let new = c.type_row.new.parts in
    let named = noted-parts source.layouts.now.statics.size None c.in_ok-row.row c.in_ok-rows.rows.items c.add_row.new.rows.items c.in_ok-rows.ensures c.in_ok-add_row.ensures in
    let before = subst (Counted source c.args.parts.now n own) (sym (append-nil hand)) h in
    subst (λ l. Counted source new (n + 1) own (hand ++ l)) (sym named)
    (subst (λ o. Counted source new (with_site o n) own (hand ++ parts_of c.in_ok-row.row)) c.in_root-lies.ensures.site (c.in_ok-row.ensures.counts.counted n own hand before))
