use Rattle.std.specs.Prelude.{◌≢◌, get_or}
use Rattle.heap_table.specs.declared.graphs.Pair.{Pair}
use Rattle.heap_table.proofs.Pairing.{first_is, first_differs, first_does_not}
use Rattle.heap_table.proofs.pairs.+has_distinct_keys.Goals as goal

pub returns-then-is_no_key : goal.returns-then-is_no_key
returns-then-is_no_key t c =
    let none : Pair = record { key = 0; value = 0 } in
    first_differs (λ (p q : Pair). p.key ≢ q.key) c.args.pairs.now (get_or c.args.pairs.now 0 none) c.in-len1-up.len_at_least (first_is c.args.pairs.now none c.in-len1-up.len_at_least)
    c.has_distinct_keys.result (c.is_no_key.ensures.0 c.if-is_no_key.true) c.has_distinct_keys.ensures

pub returns-else-is_no_key : goal.returns-else-is_no_key
returns-else-is_no_key t c =
    let none : Pair = record { key = 0; value = 0 } in
    first_does_not (λ (p q : Pair). p.key ≢ q.key) c.args.pairs.now (get_or c.args.pairs.now 0 none) c.in-len1-up.len_at_least (first_is c.args.pairs.now none c.in-len1-up.len_at_least)
    c.is_no_key.result c.if-is_no_key.false c.is_no_key.ensures
