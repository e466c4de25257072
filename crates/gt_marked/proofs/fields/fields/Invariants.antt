use Rattle.std.proofs.Common.{◌≡◌, ◌-◌, [], length}
use Rattle.gt_marked.specs.Fields.{fields_from}
use Rattle.gt_marked.proofs.fields.fields.Given as goal

abbrev pub invariant-loop : goal.invariant-loop
invariant-loop l = fields_from (l.end - l.counter) l.fields l.rest ≡ fields_from (length l.tokens) [] l.tokens
