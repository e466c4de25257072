use Rattle.std.proofs.Common.{◌≡◌, ◌++◌, ◌≤◌, ◌-◌, [], take, drop}
use Rattle.gt_parse.specs.Unmarked.{pieces_from, enumerators_of}
use Rattle.gt_parse.proofs.enums.enumerators.Given as goal

abbrev pub invariant-loop-at : goal.invariant-loop-at
invariant-loop-at l = record {
  few : l.depth ≤ l.at;
  begun : l.start ≤ l.at;
  so_far : l.found ++ enumerators_of (pieces_from l.depth (take (l.at - l.start) (drop l.start l.body)) (drop l.at l.body)) ≡ enumerators_of (pieces_from 0 [] l.body);
}
