use Rattle.std.proofs.Common.{◌≡◌, ◌≤◌, take, drop}
use Rattle.gt_marked.specs.Groups.{inside_from}
use Rattle.gt_marked.proofs.Insides.{after_tokens}
use Rattle.gt_marked.proofs.groups.inside.Given as goal

abbrev pub invariant-loop-at : goal.invariant-loop-at
invariant-loop-at l = record {
  few : l.depth ≤ l.at;
  so_far : after_tokens (take l.at l.tokens) (inside_from l.depth (drop l.at l.tokens)) ≡ inside_from 0 l.tokens;
}
