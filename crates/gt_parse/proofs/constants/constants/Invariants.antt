use Rattle.std.proofs.Common.{◌≡◌, take, map}
use Rattle.gt_parse.specs.Header.{constant_in}
use Rattle.gt_parse.proofs.constants.constants.Given as goal

abbrev pub invariant-loop-define : goal.invariant-loop-define
invariant-loop-define l = l.made.items ≡ map (constant_in l.text) (take l.define-index l.define-items)
