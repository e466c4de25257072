use Rattle.gt_leaf.proofs.WritePlaces.{statics-stand}
use Rattle.value_table.proofs.statics.try_root.Goals as goal

pub find_root-requires-clause-stands : goal.find_root-requires-clause-stands
find_root-requires-clause-stands c = let s = c.in_ok-space.ensures.stands in (s.0, statics-stand s.1)
