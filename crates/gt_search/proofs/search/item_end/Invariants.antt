use Rattle.std.proofs.Common.{◌≡◌, drop}
use Rattle.gt_search.specs.Searching.{none_begun, item_end}
use Rattle.gt_search.proofs.ItemEnds.{longer}
use Rattle.gt_search.proofs.search.item_end.Given as goal

abbrev pub invariant-loop-at : goal.invariant-loop-at
invariant-loop-at l = item_end none_begun l.tokens ≡ longer l.at (item_end l.begun (drop l.at l.tokens))
