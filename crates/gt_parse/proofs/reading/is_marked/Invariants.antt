use Rattle.std.proofs.Common.{◌≡◌, ◌≤◌, drop}
use Rattle.gt_parse.specs.Reading.{is_marked}
use Rattle.gt_parse.proofs.reading.is_marked.Given as goal

abbrev pub invariant-loop-token : goal.invariant-loop-token
invariant-loop-token l = record {
  few : l.depth ≤ l.token-index;
  so_far : is_marked l.depth (drop l.token-index l.tokens) ≡ is_marked 0 l.tokens;
}
