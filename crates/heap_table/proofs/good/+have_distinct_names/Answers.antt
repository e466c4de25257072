use Rattle.std.specs.Prelude.{◌≢◌}
use Rattle.heap_table.specs.declared.graphs.Object.{Object}
use Rattle.heap_table.proofs.Pairing.{first_differs, first_does_not}
use Rattle.heap_table.proofs.good.+have_distinct_names.Goals as goal

pub returns-then-is_no_name : goal.returns-then-is_no_name
returns-then-is_no_name t c =
    first_differs (λ (o p : Object). o.id ≢ p.id) c.args.objects.now c.first-item.result c.in-len1-up.len_at_least c.first-item.is c.have_distinct_names.result
    (c.is_no_name.ensures.0 c.if-is_no_name.true) c.have_distinct_names.ensures

pub returns-else-is_no_name : goal.returns-else-is_no_name
returns-else-is_no_name t c =
    first_does_not (λ (o p : Object). o.id ≢ p.id) c.args.objects.now c.first-item.result c.in-len1-up.len_at_least c.first-item.is c.is_no_name.result
    c.if-is_no_name.false c.is_no_name.ensures
