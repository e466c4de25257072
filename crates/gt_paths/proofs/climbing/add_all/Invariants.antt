use Rattle.std.proofs.Common.{◌≡◌, nat_eq, take}
use Rattle.indexmap.specs.IndexSet.{IsUnique, insert_all}
use Rattle.gt_paths.proofs.climbing.add_all.Given as goal

abbrev pub invariant-loop-id : goal.invariant-loop-id
invariant-loop-id l = (l.found.keys ≡ insert_all nat_eq l.fn.found.keys (take l.id-index l.ids)) × IsUnique nat_eq l.found
