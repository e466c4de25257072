use Rattle.std.proofs.Common.{◌≡◌, ◌∙◌, rules, None}
use Rattle.gt_types.specs.Contains.{itself}
use Rattle.gt_value.specs.Reading.{place, walk_to}
use Rattle.gt_value.proofs.Paths.{no-cell, walk-ends}
use Rattle.gt_value.proofs.sources.Source.walk.Goals as goal

pub returns-in_err-node_of : goal.returns-in_err-node_of
returns-in_err-node_of c =
    let program = c.args.self.now.program.now in
    let planes = c.args.self.now.layouts.now.structures in
    let none : itself c.loop-name.cell.ty.now ≡ None = search rules in
    no-cell c.from_residual-in_err-node_of.result (walk_to program planes c.args.end c.args.from c.args.steps.now) c.from_residual-in_err-node_of.ensures
    (c.loop-name.invariant ∙ walk-ends program planes c.args.end (place c.loop-name.cell.ty.now c.loop-name.cell.at) _ c.loop-name.name-index c.loop-name-test.true none)
