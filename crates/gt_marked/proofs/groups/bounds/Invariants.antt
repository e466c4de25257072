use Rattle.std.proofs.Common.{◌≡◌, ◌-◌, [], length}
use Rattle.gt_marked.specs.Groups.{bounds_from}
use Rattle.gt_marked.proofs.groups.bounds.Given as goal

abbrev pub invariant-loop : goal.invariant-loop
invariant-loop l = bounds_from (l.end - l.counter) l.bounds l.rest ≡ bounds_from (length l.tokens) [] l.tokens
