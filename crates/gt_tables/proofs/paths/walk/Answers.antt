use Rattle.std.proofs.Common.{◌≡◌, ◌*◌, rules, arith, Some}
use Rattle.std.proofs.lemmas.Grind.{common_steps}
use Rattle.gt_types.specs.Contains.{itself}
use Rattle.gt_layout.specs.declared.planes.TheConstants.{MAX_SIZE}
use Rattle.gt_value.specs.Reading.{place}
use Rattle.gt_tables.proofs.Reaching.{ends-inside, ends-within, ends-on}
use Rattle.gt_tables.proofs.paths.walk.Goals as goal

pub loop-name-init : goal.loop-name-init
loop-name-init c = record {
  same = grind (arith, common_steps);
  inside =
      let source = c.args.source.now in
      ends-within source.program.now source.layouts.now c.requires.source.settled c.requires.source.laid c.requires.source.within c.args.from _ (place c.in_ok-cell.cell.ty.now c.in_ok-cell.cell.at) c.in_ok-cell.ensures.is;
}

pub loop-name-preserved : goal.loop-name-preserved
loop-name-preserved c =
    let program = c.args.source.now.program.now in
    let planes = c.args.source.now.layouts.now.structures in
    let cell = place c.loop-name.cell.ty.now c.loop-name.cell.at in
    let next = place c.in_ok-next.next.ty.now c.in_ok-next.next.at in
    let node : itself c.loop-name.cell.ty.now ≡ Some c.in_ok-node_of.field-0 = search rules in
    record {
      same = grind (arith, common_steps);
      inside =
          ends-on planes (8 * MAX_SIZE) cell next c.in_ok-node_of.field-0 c.loop-name.invariant.inside node
          (ends-inside program c.args.source.now.layouts.now c.requires.source.settled c.requires.source.laid c.in_ok-node_of.field-0 _ next c.in_ok-next.ensures.is);
    }
