use Rattle.std.proofs.Common.{◌<◌}
use Rattle.std.specs.Prelude.{IfSome}
use Rattle.gt_links.specs.Lists.{Holds}
use Rattle.gt_pages.specs.declared.pages.TheConstants.{CACHED}
use Rattle.pages_table.proofs.lists.entries.Given as goal

abbrev pub invariant-loop : goal.invariant-loop
invariant-loop l = record {
  low : l.i < CACHED;
  held : IfSome l.node (λ node. Holds l.pages.lists l.i node);
  within : IfSome l.node (λ node. node < l.pages.lists.nodes);
}
