-- A place for a block: free, or with a block that may be marked.
use Rattle.std.specs.Prelude.{◌≡◌, ℕ, ◌<◌, ◌≤◌, Bool, true, false, List, length, Option, Some, None, is_some, option_map, IfSome, IfNone, slice_index_or}
use Rattle.gt_entries.specs.declared.marks.Mark.{Mark}

-- a place: free, or with a block, and its mark where it is marked
pub data Cell : Type 0 where
  Free : Cell
  Used : (mark : Option Mark) → Cell

abbrev pub is_free : Cell → Bool
is_free Free = true
is_free (Used mark) = false

abbrev pub is_marked : Cell → Bool
is_marked Free = false
is_marked (Used mark) = is_some mark

-- marked, and left to a pass
abbrev pub has_pending : Option Mark → Bool
has_pending None = false
has_pending (Some m) = m.pending

abbrev pub is_pending : Cell → Bool
is_pending Free = false
is_pending (Used mark) = has_pending mark

-- the mark of the block at the place; none where there is no block or it is not marked
abbrev pub mark_in : Cell → Option Mark
mark_in Free = None
mark_in (Used mark) = mark

-- the place has a block that is not marked
abbrev pub is_lost : Cell → Bool
is_lost Free = false
is_lost (Used None) = true
is_lost (Used (Some m)) = false

-- the place without its block where that is not marked
abbrev pub swept : Cell → Cell
swept Free = Free
swept (Used None) = Free
swept (Used (Some m)) = Used (Some m)

-- the place, and its block without a mark
abbrev pub unmarked : Cell → Cell
unmarked Free = Free
unmarked (Used mark) = Used None

-- the place, and its block left to a pass where it is marked
abbrev pub postponed : Cell → Cell
postponed Free = Free
postponed (Used mark) = Used (option_map (λ m. record { walk = m.walk; count = m.count; pending = true }) mark)

-- the place, and its block no more left to a pass
abbrev pub walked : Cell → Cell
walked Free = Free
walked (Used mark) = Used (option_map (λ m. record { walk = m.walk; count = m.count; pending = false }) mark)

-- place k of a list; free where there is no such place
abbrev pub cell_at : List Cell → ℕ → Cell
cell_at cells k = slice_index_or cells k Free

-- the first place from `from` on that passes a test, or none where there is none
pub record IsFirstFrom (test : Cell → Bool) (cells : List Cell) (from : ℕ) (result : Option ℕ) : Type 0 where
  pub reached : IfSome result (λ k. from ≤ k)
  pub within : IfSome result (λ k. k < length cells)
  pub passes : IfSome result (λ k. test (cell_at cells k) ≡ true)
  pub first : IfSome result (λ k. (j : ℕ) → from ≤ j → j < k → test (cell_at cells j) ≡ false)
  pub none : IfNone result ((j : ℕ) → from ≤ j → test (cell_at cells j) ≡ false)
