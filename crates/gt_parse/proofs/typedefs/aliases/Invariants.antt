use Rattle.std.proofs.Common.{◌≡◌, ◌-◌, [], length}
use Rattle.gt_parse.specs.Unmarked.{aliases_from}
use Rattle.gt_parse.proofs.typedefs.aliases.Given as goal

abbrev pub invariant-loop : goal.invariant-loop
invariant-loop l = aliases_from (l.end - l.counter) l.names l.rest ≡ aliases_from (length l.tokens) [] l.tokens
