-- A pair of a cache as it is read, with whether it stays.
use Rattle.gt_caches.specs.declared.caches.Pair.{Pair}
use Rattle.gt_caches.specs.Pairs.{Entry}

-- the entry that is read as this pair
abbrev pub entry_in : Pair → Entry
entry_in pair = record { key = pair.key; value = pair.value; stays = pair.stays }
