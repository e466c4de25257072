use Rattle.std.proofs.Common.{◌≡◌, ◌≤◌, drop}
use Rattle.gt_parse.specs.Unmarked.{after_round}
use Rattle.gt_parse.proofs.typedefs.after_round.Given as goal

abbrev pub invariant-loop-at : goal.invariant-loop-at
invariant-loop-at l = record {
  few : l.depth ≤ l.at;
  so_far : after_round l.depth (drop l.at l.tokens) ≡ after_round 0 l.tokens;
}
