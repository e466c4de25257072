use Rattle.std.proofs.Common.{subst}
use Rattle.std.specs.Prelude.{All}
use Rattle.heap_table.specs.Graphs.{HasText}
use Rattle.heap_table.proofs.Graph.{decided, no_graph}
use Rattle.heap_table.proofs.good.is_graph.Goals as goal

pub returns-in-Some : goal.returns-in-Some
returns-in-Some c = decided c.args.on.now.program c.args.g.now c.is_good_inside.result c.is_good_inside.ensures

pub returns-in-None : goal.returns-in-None
returns-in-None c = no_graph c.args.on.now.program c.args.g.now (subst (λ xs. ¬ All HasText xs) c.as_slice.ensures.value c.in-None.ensures)
