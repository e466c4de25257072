use Rattle.std.proofs.Common.{◌≡◌, [], drop}
use Rattle.gt_markers.specs.Lookups.{constants_from}
use Rattle.gt_markers.proofs.lookups.constants.Given as goal

abbrev pub invariant-loop-constant : goal.invariant-loop-constant
invariant-loop-constant l = constants_from l.made (drop l.constant-index l.constants) ≡ constants_from [] l.constants
