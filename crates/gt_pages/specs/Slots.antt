-- The blocks by rising address, each with its mark.
use Rattle.std.specs.Prelude.{◌≡◌, ℕ, ◌+◌, ◌==◌, Bool, true, false, ◌&&◌, if◌then◌else◌, List, Option, None, is_some, is_none, option_map, option_and_then, nat_lt, nat_le, find, map, Contains}
use Rattle.gt_entries.specs.declared.marks.Mark.{Mark}
use Rattle.gt_entries.specs.Cells.{has_pending}
use Rattle.gt_pages.specs.Ledger.{Block, insert_by}

-- a block: its address, its size in bytes, and its mark where it is marked
pub record Slot : Type 0 where
  pub address : ℕ
  pub size : ℕ
  pub mark : Option Mark

-- the block alone, without its mark
abbrev pub block_of : Slot → Block
block_of s = record { address = s.address; size = s.size }

-- an unmarked block
abbrev pub slot_at : (address size : ℕ) → Slot
slot_at address size = record { address = address; size = size; mark = None }

-- one more block, at its place by address
abbrev pub with_slot : List Slot → Slot → List Slot
with_slot slots s = insert_by (λ t. t.address) s slots

-- a block starts at the address
abbrev pub StartsSome : List Slot → ℕ → Type 0
StartsSome slots address = (s : Slot) × Contains slots s × (s.address ≡ address)

-- the address is one of the block's bytes
abbrev pub has_byte : ℕ → Slot → Bool
has_byte address s = nat_le s.address address && nat_lt address (s.address + s.size)

-- the block that has the byte at an address: where it starts, and its size
abbrev pub owner_of : List Slot → ℕ → Option (ℕ × ℕ)
owner_of slots address = option_map (λ s. (s.address, s.size)) (find (has_byte address) slots)

abbrev pub is_marked : Slot → Bool
is_marked s = is_some s.mark

-- marked, and left to a pass
abbrev pub is_pending : Slot → Bool
is_pending s = has_pending s.mark

-- the mark of the block that starts at an address
abbrev pub mark_at : List Slot → ℕ → Option Mark
mark_at slots address = option_and_then (λ s. s.mark) (find (λ s. s.address == address) slots)

-- the first block above an address that passes a test
abbrev pub next_slot : (Slot → Bool) → List Slot → ℕ → Option Slot
next_slot test slots after = find (λ s. nat_lt after s.address && test s) slots

-- what is told of a marked block: its address, walk and count
abbrev pub told_of : Option Slot → Option (ℕ × ℕ × ℕ)
told_of found = option_and_then (λ s. option_map (λ m. (s.address, m.walk, m.count)) s.mark) found

-- the block with another mark, or with none
abbrev pub with_mark : Option Mark → Slot → Slot
with_mark mark s = record { address = s.address; size = s.size; mark = mark }

-- the block that starts at the address has this mark now
abbrev pub with_mark_at : List Slot → ℕ → Option Mark → List Slot
with_mark_at slots address mark = map (λ s. if s.address == address then with_mark mark s else s) slots

-- the mark that a block gets, which is left to no pass
abbrev pub new_mark : (walk count : ℕ) → Mark
new_mark walk count = record { walk = walk; count = count; pending = false }

-- the same mark of a block that is left to a pass
abbrev pub postponed : Option Mark → Option Mark
postponed mark = option_map (λ m. record { walk = m.walk; count = m.count; pending = true }) mark

-- the same mark of a block that is left to no pass
abbrev pub walked : Option Mark → Option Mark
walked mark = option_map (λ m. record { walk = m.walk; count = m.count; pending = false }) mark

-- the block without a mark
abbrev pub unmarked : Slot → Slot
unmarked s = with_mark None s

abbrev pub is_unmarked : Slot → Bool
is_unmarked s = is_none s.mark
