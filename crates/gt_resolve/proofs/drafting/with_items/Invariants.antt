use Rattle.std.proofs.Common.{◌≡◌, ◌++◌, take}
use Rattle.std.specs.Prelude.{filter_map}
use Rattle.gt_resolve.proofs.drafting.with_items.Given as goal

abbrev pub invariant-loop-item : goal.invariant-loop-item
invariant-loop-item g l =
    l.made.items ≡ l.fn.before.items ++ filter_map (g.D.OfItem.reading l.scope.declarations.items l.scope.types.items l.file) (take l.item-index l.items)
