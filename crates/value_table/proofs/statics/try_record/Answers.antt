use Rattle.gt_leaf.proofs.WritePlaces.{statics-stand}
use Rattle.value_table.proofs.statics.try_record.Goals as goal

pub store_again-requires-clause-stands : goal.store_again-requires-clause-stands
store_again-requires-clause-stands c = let s = c.in_ok-space.ensures.stands in (s.0, statics-stand s.1)
