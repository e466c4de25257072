use Rattle.std.proofs.Common.{◌∷◌, [], ◌++◌, map, take}
use Rattle.gt_value.specs.Values.{trees, tree_of}
use Rattle.gt_show.specs.Shown.{ShowFields}
use Rattle.gt_show.specs.StaticTexts.{as_field}
use Rattle.gt_show.proofs.Adding.{AreAdded}
use Rattle.gt_show.proofs.statics.push_roots.Given as goal

abbrev pub invariant-loop-place : goal.invariant-loop-place
invariant-loop-place g l =
    AreAdded (ShowFields l.context.program.now (g.N.BlockNames.blocks l.context.names.now) (take l.place (map as_field l.context.program.now.roots)) (trees (map tree_of (take l.place l.parts)))) l.place (l.fn.text ++ 123 ∷ []) l.text
