use Rattle.std.proofs.Common.{◌≡◌, ◌↔◌, Some, drop}
use Rattle.gt_tree.specs.Blocks.{Chars, Block}
use Rattle.gt_fit.proofs.Endings.{EndsInItsZero}
use Rattle.gt_fit.proofs.naming.ends_in_its_zero.Given as goal

abbrev pub invariant-loop-i : goal.invariant-loop-i
invariant-loop-i g l = (b : Block) → g.N.BlockNames.blocks l.names l.addr ≡ Some b → b.kind ≡ Chars → EndsInItsZero (drop l.i b.chars) ↔ EndsInItsZero b.chars
