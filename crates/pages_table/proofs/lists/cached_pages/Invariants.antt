use Rattle.std.proofs.Common.{◌<◌}
use Rattle.std.specs.Prelude.{IfSome}
use Rattle.pages_table.proofs.lists.cached_pages.Given as goal

abbrev pub invariant-loop : goal.invariant-loop
invariant-loop l = IfSome l.node (λ node. node < l.pages.lists.nodes)
