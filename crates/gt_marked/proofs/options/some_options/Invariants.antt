use Rattle.std.proofs.Common.{◌≡◌, ◌-◌, [], length}
use Rattle.gt_marked.specs.Markers.{options_from}
use Rattle.gt_marked.proofs.options.some_options.Given as goal

abbrev pub invariant-loop : goal.invariant-loop
invariant-loop l = options_from (l.end - l.counter) l.options l.rest ≡ options_from (length l.tokens) [] l.tokens
