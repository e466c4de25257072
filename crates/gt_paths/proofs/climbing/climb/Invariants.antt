use Rattle.std.proofs.Common.{nat_eq}
use Rattle.indexmap.specs.IndexSet.{IsUnique}
use Rattle.gt_paths.proofs.Ascents.{Climbing}
use Rattle.gt_paths.proofs.climbing.climb.Given as goal

abbrev pub invariant-steps : goal.invariant-steps
invariant-steps l = Climbing l.program l.fn.from.keys l.step l.found.keys × IsUnique nat_eq l.found
