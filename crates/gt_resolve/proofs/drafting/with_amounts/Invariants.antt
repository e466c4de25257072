use Rattle.std.proofs.Common.{◌≡◌, ◌++◌, map, take}
use Rattle.gt_resolve.specs.Drafts.{amount_in}
use Rattle.gt_resolve.proofs.drafting.with_amounts.Given as goal

abbrev pub invariant-loop-text : goal.invariant-loop-text
invariant-loop-text l = l.made.items ≡ l.fn.before.items ++ map (amount_in l.scope.declarations.items) (take l.text-index l.texts)
