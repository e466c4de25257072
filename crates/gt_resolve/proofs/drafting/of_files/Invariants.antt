use Rattle.std.proofs.Common.{◌≡◌, ◌++◌, ◌+◌, drop}
use Rattle.gt_resolve.specs.Drafts.{items_from}
use Rattle.gt_resolve.proofs.drafting.of_files.Given as goal

abbrev pub invariant-loop-items : goal.invariant-loop-items
invariant-loop-items g l =
    l.made.items ++ items_from (g.D.OfItem.reading l.scope.declarations.items l.scope.types.items) (l.file + 1) (drop l.items-index l.files)
    ≡ items_from (g.D.OfItem.reading l.scope.declarations.items l.scope.types.items) 1 l.files
