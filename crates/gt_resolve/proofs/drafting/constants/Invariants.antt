use Rattle.std.proofs.Common.{◌≡◌, map, take}
use Rattle.gt_resolve.proofs.DraftLemmas.{as_drafted}
use Rattle.gt_resolve.proofs.drafting.constants.Given as goal

abbrev pub invariant-loop-entry : goal.invariant-loop-entry
invariant-loop-entry l = l.made.items ≡ map as_drafted (take l.entry-index l.entry-items)
