-- No promise: the entries of a cache that stay. Only the functions inside the crate cite this.
use Rattle.std.specs.Prelude.{List, filter}
use Rattle.gt_caches.specs.Pairs.{Entry}

-- the entries that stay, in their order
abbrev pub staying_in : List Entry → List Entry
staying_in entries = filter (λ e. e.stays) entries
