-- No promise: the entries of a cache, as its map holds them. Only a type inside the crate cites this.
use Rattle.std.specs.Prelude.{ℕ}
use Rattle.gt_caches.specs.declared.keyed.Held.{Held}
use Rattle.gt_caches.specs.Pairs.{Entry}

-- a key, with what is held of it
abbrev pub entry_of : ℕ × Held → Entry
entry_of e = record { key = e.0; value = e.1.value; stays = e.1.stays }
