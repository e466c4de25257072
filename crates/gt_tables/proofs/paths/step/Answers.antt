use Rattle.std.proofs.Common.{◌≡◌, ◌∙◌, ap, sym, rules, Some, None}
use Rattle.std.specs.Prelude.{slice_get}
use Rattle.std.specs.Str.{bytes_eq}
use Rattle.std.specs.List.{position_from}
use Rattle.gt_layout.specs.Places.{begin_at}
use Rattle.gt_tree.specs.Scopes.{◌then◌}
use Rattle.gt_value.specs.Reading.{place}
use Rattle.gt_edges.specs.Walks.{field_named}
use Rattle.gt_tables.proofs.Reaching.{no-cell, named-is, spot-none, spot-some}
use Rattle.gt_tables.proofs.paths.step.Goals as goal

pub returns-in_err-i-clause-is : goal.returns-in_err-i-clause-is
returns-in_err-i-clause-is c =
    let program = c.args.source.now.program.now in
    let planes = c.args.source.now.layouts.now.structures in
    let s = c.in_ok-structure.structure.now in
    let plane = c.in_ok-plane.plane.now in
    let has : slice_get program.structures c.args.node.0 ≡ Some s = search rules in
    let laid : slice_get planes c.args.node.0 ≡ Some plane = search rules in
    let none : c.place_of.result ≡ None = search rules in
    no-cell c.from_residual-in_err-i.result (field_named program planes c.args.node c.args.name.now) c.from_residual-in_err-i.ensures
    (named-is program planes c.args.node c.args.name.now s plane None has laid (sym (c.place_of.ensures s has) ∙ none))

pub returns-in_err-field-clause-is : goal.returns-in_err-field-clause-is
returns-in_err-field-clause-is c =
    let program = c.args.source.now.program.now in
    let planes = c.args.source.now.layouts.now.structures in
    let s = c.in_ok-structure.structure.now in
    let plane = c.in_ok-plane.plane.now in
    let has : slice_get program.structures c.args.node.0 ≡ Some s = search rules in
    let laid : slice_get planes c.args.node.0 ≡ Some plane = search rules in
    let named : c.place_of.result ≡ Some c.in_ok-i.i = search rules in
    let found : position_from (λ f. bytes_eq f.name c.args.name.now) 0 s.fields ≡ Some c.in_ok-i.i = sym (c.place_of.ensures s has) ∙ named in
    let none : slice_get s.fields c.in_ok-i.i ≡ None = search rules in
    no-cell c.from_residual-in_err-field.result (field_named program planes c.args.node c.args.name.now) c.from_residual-in_err-field.ensures
    (named-is program planes c.args.node c.args.name.now s plane (Some c.in_ok-i.i) has laid found
    ∙ ap (λ o. o then λ f. slice_get plane.fields c.in_ok-i.i then λ spot. Some (place f.ty (begin_at spot))) none)

pub returns-in_err-spot-clause-is : goal.returns-in_err-spot-clause-is
returns-in_err-spot-clause-is c =
    let program = c.args.source.now.program.now in
    let planes = c.args.source.now.layouts.now.structures in
    let s = c.in_ok-structure.structure.now in
    let plane = c.in_ok-plane.plane.now in
    let has : slice_get program.structures c.args.node.0 ≡ Some s = search rules in
    let laid : slice_get planes c.args.node.0 ≡ Some plane = search rules in
    let named : c.place_of.result ≡ Some c.in_ok-i.i = search rules in
    let found : position_from (λ f. bytes_eq f.name c.args.name.now) 0 s.fields ≡ Some c.in_ok-i.i = sym (c.place_of.ensures s has) ∙ named in
    let some : slice_get s.fields c.in_ok-i.i ≡ Some c.in_ok-field.field.now = search rules in
    let none : slice_get plane.fields c.in_ok-i.i ≡ None = search rules in
    no-cell c.from_residual-in_err-spot.result (field_named program planes c.args.node c.args.name.now) c.from_residual-in_err-spot.ensures
    (named-is program planes c.args.node c.args.name.now s plane (Some c.in_ok-i.i) has laid found ∙ spot-none s.fields plane.fields c.in_ok-i.i c.in_ok-field.field.now some none)

pub returns-clause-is : goal.returns-clause-is
returns-clause-is c =
    let program = c.args.source.now.program.now in
    let planes = c.args.source.now.layouts.now.structures in
    let s = c.in_ok-structure.structure.now in
    let plane = c.in_ok-plane.plane.now in
    let has : slice_get program.structures c.args.node.0 ≡ Some s = search rules in
    let laid : slice_get planes c.args.node.0 ≡ Some plane = search rules in
    let named : c.place_of.result ≡ Some c.in_ok-i.i = search rules in
    let found : position_from (λ f. bytes_eq f.name c.args.name.now) 0 s.fields ≡ Some c.in_ok-i.i = sym (c.place_of.ensures s has) ∙ named in
    let some : slice_get s.fields c.in_ok-i.i ≡ Some c.in_ok-field.field.now = search rules in
    let got : slice_get plane.fields c.in_ok-i.i ≡ Some c.in_ok-spot.spot.now = search rules in
    named-is program planes c.args.node c.args.name.now s plane (Some c.in_ok-i.i) has laid found ∙ spot-some s.fields plane.fields c.in_ok-i.i c.in_ok-field.field.now c.in_ok-spot.spot.now some got
    ∙ ap (λ at. Some (place c.in_ok-field.field.now.ty at)) (sym c.begin_at.ensures.begin)
