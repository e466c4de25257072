-- What marking leaves.
use Rattle.std.specs.Prelude.{◌≡◌, ◌↔◌, ℕ, Bool, true, false, List, map, Option, Some, None, IsTrue, Contains}
use Rattle.gt_space.specs.Range.{Range}
use Rattle.gt_entries.specs.declared.marks.Mark.{Mark}
use Rattle.gt_pages.specs.Slots.{Slot, is_pending, with_mark}
use Rattle.gt_pages.specs.Contents.{Contents, with_slots}
use Rattle.gt_walk.specs.declared.tables.Tables.{Tables}
use Rattle.gt_mark.specs.Reached.{Walks, IsReached}

-- the mark that a block has once it is walked, which is left to no pass
abbrev pub own_mark : Walks → ℕ → Mark
own_mark walks address = record { walk = (walks address).walk; count = (walks address).count; pending = false }

-- The mark of a block afterwards, by whether it is reached, whether it is left to a pass, and the mark that it had: a mark keeps its walk
-- and count; a block without one gets its own where it is reached, and else none.
abbrev pub mark_after : (reached pending : Bool) → (own : Mark) → Option Mark → Option Mark
mark_after reached pending own (Some m) = Some (record { walk = m.walk; count = m.count; pending = pending })
mark_after true pending own None = Some own
mark_after false pending own None = None

-- Exactly the blocks that are reached are marked besides those that were, each with its own walk and count. No block is left to a pass
-- but some of those that were before. Blocks, image, pages and lists are as they were.
pub record Marks (tables : Tables) (space : Range) (walks : Walks) (starts : List ℕ) (old new : Contents) : Type 0 where
  pub reached : ℕ → Bool
  pub exact : (s : Slot) → Contains old.slots s → IsTrue (reached s.address) ↔ IsReached tables space walks starts s.address
  pub pending : ℕ → Bool
  pub left : (s : Slot) → Contains old.slots s → IsTrue (pending s.address) → IsTrue (is_pending s)
  pub marked : new ≡ with_slots old (map (λ s. with_mark (mark_after (reached s.address) (pending s.address) (own_mark walks s.address) s.mark) s) old.slots)
