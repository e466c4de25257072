use Rattle.std.proofs.Common.{◌∷◌, [], ◌++◌, map, take}
use Rattle.gt_value.specs.Values.{trees, tree_of}
use Rattle.gt_show.specs.Shown.{ShowFields, ShowEach}
use Rattle.gt_show.proofs.Adding.{AreAdded}
use Rattle.gt_show.proofs.values.+show.Given as goal

abbrev pub invariant-push_struct-loop-place : goal.invariant-push_struct-loop-place
invariant-push_struct-loop-place g l =
    AreAdded (ShowFields l.context.program.now (g.N.BlockNames.blocks l.context.names.now) (take l.place l.s.fields) (trees (map tree_of (take l.place l.parts)))) l.place (l.fn.text ++ 123 ∷ []) l.text

abbrev pub invariant-push_row-loop-place : goal.invariant-push_row-loop-place
invariant-push_row-loop-place g l =
    AreAdded (ShowEach l.context.program.now (g.N.BlockNames.blocks l.context.names.now) l.elem (trees (map tree_of (take l.place l.parts)))) l.place (l.fn.text ++ 91 ∷ []) l.text
