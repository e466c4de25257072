use Rattle.std.proofs.Common.{◌≡◌, drop}
use Rattle.gt_parse.specs.Unmarked.{unmarked_at}
use Rattle.gt_parse.proofs.reading.item_without_markers.Given as goal

abbrev pub invariant-loop-token : goal.invariant-loop-token
invariant-loop-token l = unmarked_at l.tokens (drop l.token-index l.tokens) ≡ unmarked_at l.tokens l.tokens
