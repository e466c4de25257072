use Rattle.std.proofs.Common.{map, take}
use Rattle.gt_value.specs.Values.{trees, tree_of}
use Rattle.gt_show.specs.BlockTexts.{AreBytes}
use Rattle.gt_show.proofs.blocks.bytes_of.Given as goal

abbrev pub invariant-loop-element : goal.invariant-loop-element
invariant-loop-element l = AreBytes (trees (map tree_of (take l.element-index l.elements))) l.bytes
