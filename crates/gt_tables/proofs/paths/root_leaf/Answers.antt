use Rattle.std.proofs.Common.{◌≡◌, rules, arith, Some}
use Rattle.std.specs.Prelude.{slice_get}
use Rattle.gt_tables.proofs.Reaching.{root-inside}
use Rattle.gt_tables.proofs.paths.root_leaf.Goals as goal

pub leaf_of-requires : goal.leaf_of-requires
leaf_of-requires c =
    let source = c.args.source.now in
    let there : slice_get source.program.now.roots c.args.place ≡ Some c.in_ok-root.root.now = search rules in
    let at : slice_get source.layouts.now.statics.fields c.args.place ≡ Some c.in_ok-spot.spot.now = search rules in
    let inside =
    root-inside source.program.now source.layouts.now c.requires.source.settled c.requires.source.laid c.requires.source.within c.args.place c.in_ok-root.root.now c.in_ok-spot.spot.now there at in
    record { small = omega (arith, inside, c.requires.source.start, c.begin_at.ensures.begin) }
