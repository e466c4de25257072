use Rattle.std.proofs.Common.{◌≡◌, Some, take}
use Rattle.gt_starts.specs.Tries.{node_of}
use Rattle.gt_starts.specs.Nodes.{Grows, AreApart}
use Rattle.gt_starts.proofs.tries.Trie.add.Given as goal

abbrev pub invariant-loop-name : goal.invariant-loop-name
invariant-loop-name l = record {
  at : node_of l.self (take l.name-index l.names) ≡ Some l.node;
  grows : Grows l.fn.self l.self;
  apart : AreApart l.self;
}
