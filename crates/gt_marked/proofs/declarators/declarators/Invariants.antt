use Rattle.std.proofs.Common.{◌≡◌, ◌-◌, [], length}
use Rattle.gt_marked.specs.Fields.{declarators_from}
use Rattle.gt_marked.proofs.declarators.declarators.Given as goal

abbrev pub invariant-loop : goal.invariant-loop
invariant-loop l = declarators_from (l.end - l.counter) l.declarators l.rest ≡ declarators_from (length l.tokens) [] l.tokens
