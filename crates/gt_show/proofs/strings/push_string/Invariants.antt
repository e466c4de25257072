use Rattle.std.proofs.Common.{◌≡◌, ◌∷◌, [], ◌++◌, take, Some}
use Rattle.std.specs.List.{flat_map}
use Rattle.gt_tree.specs.Blocks.{Block}
use Rattle.gt_show.specs.Shown.{char_text}
use Rattle.gt_show.proofs.strings.push_string.Given as goal

abbrev pub invariant-loop-i : goal.invariant-loop-i
invariant-loop-i g l = (b : Block) → g.N.BlockNames.blocks l.names l.addr ≡ Some b → l.text ≡ l.fn.text ++ 34 ∷ [] ++ flat_map char_text (take l.i b.chars)
