use Rattle.heap_table.specs.Graphs.{objects_of}
use Rattle.heap_table.proofs.Pairing.{keys_decide, singles_decide}
use Rattle.heap_table.proofs.pairs.are_pairs_of.Goals as goal

pub returns-then-are_singles : goal.returns-then-are_singles
returns-then-are_singles c =
    keys_decide (objects_of c.args.objects.now) c.args.cache.now c.args.pairs.now c.has_distinct_keys.result (c.are_singles.ensures.0 c.if-are_singles.true) c.has_distinct_keys.ensures

pub returns-else-are_singles : goal.returns-else-are_singles
returns-else-are_singles c = singles_decide (objects_of c.args.objects.now) c.args.cache.now c.args.pairs.now c.are_singles.result c.if-are_singles.false c.are_singles.ensures
