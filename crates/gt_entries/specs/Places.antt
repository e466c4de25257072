-- No promise: how the places of an entry stand in its bits.
use Rattle.std.specs.Prelude.{◌≡◌, ℕ, ◌*◌, ◌^◌, ◌<◌, ◌≤◌, Bool, true, false, List, count_by, length, map, slice_index_or, Some, None}
use Rattle.std.specs.List.{range_with_len}
use Rattle.gt_bits.specs.Sets.{has}
use Rattle.gt_entries.specs.declared.places.Tag.{Tag}
use Rattle.gt_entries.specs.Cells.{Cell, Free, Used, is_free}

-- a place, from its bits and its tag
abbrev pub cell_from : (used marked pending : Bool) → Tag → Cell
cell_from false marked pending tag = Free
cell_from true false pending tag = Used None
cell_from true true pending tag = Used (Some (record { walk = tag.walk; count = tag.count; pending = pending }))

-- the tag of place k
abbrev pub tag_at : List Tag → ℕ → Tag
tag_at tags k = slice_index_or tags k (record { walk = 0; count = 0 })

-- place k
abbrev pub cell_of : (used marked pending : List ℕ) → List Tag → ℕ → Cell
cell_of used marked pending tags k = cell_from (has used k) (has marked k) (has pending k) (tag_at tags k)

-- so many places, in order
abbrev pub cells_of : ℕ → (used marked pending : List ℕ) → List Tag → List Cell
cells_of count used marked pending tags = map (cell_of used marked pending tags) (range_with_len 0 count)

-- the three sets have as many words, with a bit for each place; what is marked is used, and what is left to a pass is marked
pub record AreKept (count : ℕ) (used marked pending : List ℕ) (tags : List Tag) : Type 0 where
  pub tag_count : length tags ≡ count
  pub room : count ≤ 64 * length used
  pub fits : 64 * length used < 2 ^ 32
  pub marked_words : length marked ≡ length used
  pub pending_words : length pending ≡ length used
  pub within : (i : ℕ) → has used i ≡ true → i < count
  pub marks_used : (i : ℕ) → has marked i ≡ true → has used i ≡ true
  pub pending_marked : (i : ℕ) → has pending i ≡ true → has marked i ≡ true

-- the places are kept in the bits, and so many of them are free
pub record AreCounted (count free : ℕ) (used marked pending : List ℕ) (tags : List Tag) : Type 0 where
  pub kept : AreKept count used marked pending tags
  pub free_count : free ≡ count_by is_free (cells_of count used marked pending tags)
