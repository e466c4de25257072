use Rattle.std.proofs.Common.{◌≡◌, ◌++◌}
use Rattle.gt_edges.specs.Deletable.{words_from}
use Rattle.gt_tables.proofs.deletable.add_words.Given as goal

abbrev pub invariant-loop-i : goal.invariant-loop-i
invariant-loop-i l = l.words.items ≡ l.fn.words.items ++ words_from l.address l.i
