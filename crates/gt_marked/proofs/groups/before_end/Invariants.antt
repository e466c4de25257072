use Rattle.std.proofs.Common.{◌≡◌, ◌≤◌, take, drop}
use Rattle.gt_marked.specs.Groups.{before_end}
use Rattle.gt_marked.proofs.Insides.{after_tokens}
use Rattle.gt_marked.proofs.groups.before_end.Given as goal

abbrev pub invariant-loop-at : goal.invariant-loop-at
invariant-loop-at l = record {
  few : l.depth ≤ l.at;
  so_far : after_tokens (take l.at l.tokens) (before_end l.depth (drop l.at l.tokens)) ≡ before_end 0 l.tokens;
}
