-- The pairs of caches as they are held, and those that stay when others are dropped.
use Rattle.std.specs.Prelude.{◌≡◌, ℕ, Bool, List, Some, slice_get, slice_set, filter, map}
use Rattle.std.specs.Option.{option_map_or}
use Rattle.gt_graph.specs.Good.{Heap}

-- a pair of key and value, and whether it stays when a collection ends
pub record Entry : Type 0 where
  pub key : ℕ
  pub value : ℕ
  pub stays : Bool

-- the caches as they are held: for each its entries in order
abbrev pub Entries : Type 0
Entries = List (List Entry)

abbrev pub pair_of : Entry → ℕ × ℕ
pair_of e = (e.key, e.value)

-- the pairs, whether they stay or not
abbrev pub pairs_of : Entries → List (List (ℕ × ℕ))
pairs_of caches = map (λ entries. map pair_of entries) caches

-- the pairs that stay
abbrev pub staying : Entries → List (List (ℕ × ℕ))
staying caches = map (λ entries. map pair_of (filter (λ e. e.stays) entries)) caches

-- the entries of one cache, of which the one at a place stays or does not
abbrev pub decided_at : List Entry → ℕ → Bool → List Entry
decided_at entries i stays = option_map_or (λ e. slice_set entries i (record e { stays = stays })) (slice_get entries i) entries

-- the caches, of which this entry of one stays or does not
abbrev pub decided : Entries → (cache i : ℕ) → Bool → Entries
decided caches cache i stays = option_map_or (λ entries. slice_set caches cache (decided_at entries i stays)) (slice_get caches cache) caches

-- the entry at a place of a cache
abbrev pub IsEntryAt : Entries → (cache i : ℕ) → Entry → Type 0
IsEntryAt caches cache i e = (entries : List Entry) × (slice_get caches cache ≡ Some entries) × (slice_get entries i ≡ Some e)

-- a heap with other pairs
abbrev pub with_pairs : Heap → List (List (ℕ × ℕ)) → Heap
with_pairs heap pairs = record heap { graph = record heap.graph { pairs = pairs } }
