-- No promise: the place of an entry that has a byte.
use Rattle.std.specs.Prelude.{◌≡◌, ℕ, slice_set, ◌+◌, ◌-◌, ◌*◌, ◌/◌, ◌<◌, ◌≤◌, ◌⊎◌, Bool, true, false, length, Option, Some, None, IfSome, IfNone, option_map}
use Rattle.gt_space.specs.declared.TheConstants.{HEAP_START}
use Rattle.gt_bits.specs.Sets.{has, HoldsNone}
use Rattle.gt_entries.specs.declared.marks.Mark.{Mark}
use Rattle.gt_pages.specs.declared.store.Entry.{Entry}
use Rattle.gt_entries.specs.Cells.{Cell, Free, Used, cell_at, mark_in}
use Rattle.gt_pages.specs.declared.parts.EntryPlace.{EntryPlace}
use Rattle.gt_pages.specs.Ledger.{page_address, page_of}
use Rattle.gt_pages.specs.Parts.{Parts, entry_at}
use Rattle.gt_pages.specs.Tables.{page_at}

-- the address is below the pages, above them, or in a page that leads to no entry
abbrev pub IsNowhere : Parts → ℕ → Type 0
IsNowhere p addr = (addr < HEAP_START) ⊎ ((p.pages ≤ page_of addr) ⊎ (page_at p.table (page_of addr) ≡ None))

-- the place of an entry in use that has the byte, or is the first after its places where these do not fill its pages
pub record IsSpot (p : Parts) (addr : ℕ) (spot : EntryPlace) : Type 0 where
  pub starts : has p.starts spot.page ≡ true
  pub leads : page_at p.table (page_of addr) ≡ Some spot.page
  pub above : page_address spot.page ≤ addr
  pub place : spot.place ≡ (addr - page_address spot.page) / (entry_at p.entries spot.page).size

-- what is told of the block at place k of an entry of which the first place is at an address: where it starts, and its size
abbrev pub block_in : (start size : ℕ) → Cell → ℕ → Option (ℕ × ℕ)
block_in start size Free k = None
block_in start size (Used mark) k = Some (start + size * k, size)

-- the block at the place of a spot
abbrev pub block_at : Parts → EntryPlace → Option (ℕ × ℕ)
block_at p spot =
    let entry = entry_at p.entries spot.page in
    block_in (page_address spot.page) entry.size (cell_at entry.places spot.place) spot.place

-- the entry with another mark at a place
abbrev pub with_mark_in : Entry → ℕ → Option Mark → Entry
with_mark_in e k m = record { size = e.size; places = slice_set e.places k (Used m) }

-- the parts with another mark at a spot
abbrev pub with_mark_spot : Parts → EntryPlace → Option Mark → Parts
with_mark_spot p spot m =
    record p { entries = slice_set p.entries spot.page (with_mark_in (entry_at p.entries spot.page) spot.place m) }

-- where place k of the entry of a page starts
abbrev pub place_at : Parts → ℕ → ℕ → ℕ
place_at p page k = page_address page + (entry_at p.entries page).size * k

-- no place of an entry in use starts above an address
abbrev pub HasNoneAbove : Parts → ℕ → Type 0
HasNoneAbove p after =
    (page k : ℕ) → has p.starts page ≡ true → k < length (entry_at p.entries page).places → place_at p page k ≤ after

-- the places of the entries in use that start above an address are those from this spot on
pub record IsAbove (p : Parts) (after : ℕ) (spot : EntryPlace) : Type 0 where
  pub starts : has p.starts spot.page ≡ true
  pub below : (page k : ℕ) → page < spot.page → has p.starts page ≡ true → k < length (entry_at p.entries page).places → place_at p page k ≤ after
  pub before : (k : ℕ) → k < spot.place → place_at p spot.page k ≤ after
  pub from : (k : ℕ) → spot.place ≤ k → after < place_at p spot.page k
  pub above : (page k : ℕ) → spot.page < page → has p.starts page ≡ true → after < place_at p page k

-- the first place of the first entry in use from a page on, or none where there is none
pub record IsNextSpot (p : Parts) (page : ℕ) (result : Option EntryPlace) : Type 0 where
  pub starts : IfSome result (λ s. has p.starts s.page ≡ true)
  pub place : IfSome result (λ s. s.place ≡ 0)
  pub reached : IfSome result (λ s. page ≤ s.page)
  pub between : IfSome result (λ s. HoldsNone p.starts page s.page)
  pub none : IfNone result ((j : ℕ) → page ≤ j → has p.starts j ≡ false)

-- the first place of the spot's entry, from the spot on, that passes a test, or none where there is none
pub record IsFirstIn (test : Cell → Bool) (p : Parts) (from : EntryPlace) (result : Option EntryPlace) : Type 0 where
  pub page : IfSome result (λ s. s.page ≡ from.page)
  pub reached : IfSome result (λ s. from.place ≤ s.place)
  pub within : IfSome result (λ s. s.place < length (entry_at p.entries from.page).places)
  pub passes : IfSome result (λ s. test (cell_at (entry_at p.entries from.page).places s.place) ≡ true)
  pub first : IfSome result (λ s. (j : ℕ) → from.place ≤ j → j < s.place → test (cell_at (entry_at p.entries from.page).places j) ≡ false)
  pub none : IfNone result ((j : ℕ) → from.place ≤ j → test (cell_at (entry_at p.entries from.page).places j) ≡ false)

-- the marked block at a place: its address, walk and count
abbrev pub marked_at : Parts → EntryPlace → Option (ℕ × ℕ × ℕ)
marked_at p spot =
    option_map (λ m. (place_at p spot.page spot.place, m.walk, m.count)) (mark_in (cell_at (entry_at p.entries spot.page).places spot.place))
