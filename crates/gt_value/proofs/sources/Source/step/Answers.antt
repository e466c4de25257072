use Rattle.std.proofs.Common.{◌≡◌, ◌∙◌, rules, sym, None, Some}
use Rattle.std.specs.Prelude.{slice_get}
use Rattle.gt_value.specs.Reading.{step_to, place_field}
use Rattle.gt_value.proofs.Paths.{IsCell, same-cell, no-cell, step-found, step-is}
use Rattle.gt_value.proofs.sources.Source.step.Goals as goal

pub returns-in_err-i : goal.returns-in_err-i
returns-in_err-i c =
    let program = c.args.self.now.program.now in
    let planes = c.args.self.now.layouts.now.structures in
    let s = c.in_ok-structure.structure.now in
    let plane = c.in_ok-plane.plane.now in
    let has : slice_get program.structures c.args.node.0 ≡ Some s = search rules in
    let laid : slice_get planes c.args.node.0 ≡ Some plane = search rules in
    let none : c.find_field.result ≡ None = search rules in
    no-cell c.from_residual-in_err-i.result (step_to program planes c.args.end c.args.node c.args.at c.args.name.now) c.from_residual-in_err-i.ensures
    (step-found program planes c.args.end c.args.node c.args.at c.args.name.now s plane None has laid (sym (c.find_field.ensures s has) ∙ none))

pub returns : goal.returns
returns c =
    let program = c.args.self.now.program.now in
    let planes = c.args.self.now.layouts.now.structures in
    let s = c.in_ok-structure.structure.now in
    let plane = c.in_ok-plane.plane.now in
    let has : slice_get program.structures c.args.node.0 ≡ Some s = search rules in
    let laid : slice_get planes c.args.node.0 ≡ Some plane = search rules in
    let some : c.find_field.result ≡ Some c.in_ok-i.i = search rules in
    let placed : IsCell c.place_field.result (place_field s.fields plane.fields c.args.end c.args.at c.in_ok-i.i) = search rules in
    same-cell c.place_field.result (step_to program planes c.args.end c.args.node c.args.at c.args.name.now) (place_field s.fields plane.fields c.args.end c.args.at c.in_ok-i.i)
    (step-is program planes c.args.end c.args.node c.args.at c.args.name.now s plane c.in_ok-i.i has laid (sym (c.find_field.ensures s has) ∙ some)) placed
