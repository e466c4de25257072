use Rattle.heap_table.specs.Graphs.{objects_of, IsPairOf}
use Rattle.heap_table.proofs.Pairing.{first_is, first_holds, first_fails}
use Rattle.heap_table.proofs.pairs.+are_singles.Goals as goal

pub returns-then-is_pair : goal.returns-then-is_pair
returns-then-is_pair t c =
    first_holds (IsPairOf (objects_of c.args.objects.now) c.args.cache.now) c.args.pairs.now _ c.in-len1-up.len_at_least (first_is c.args.pairs.now _ c.in-len1-up.len_at_least) c.are_singles.result
    (c.is_pair.ensures.0 c.if-is_pair.true) c.are_singles.ensures

pub returns-else-is_pair : goal.returns-else-is_pair
returns-else-is_pair t c =
    first_fails (IsPairOf (objects_of c.args.objects.now) c.args.cache.now) c.args.pairs.now _ c.in-len1-up.len_at_least (first_is c.args.pairs.now _ c.in-len1-up.len_at_least) c.is_pair.result
    c.if-is_pair.false c.is_pair.ensures
