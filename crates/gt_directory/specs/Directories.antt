-- What is known of blocks, by their addresses.
use Rattle.std.specs.Prelude.{◌≡◌, ◌≢◌, ◌⊎◌, ℕ, ◌==◌, ◌+◌, ◌-◌, ◌/◌, ◌%◌, ◌<◌, ◌≤◌, List, Option, Some, None, cond, option_and_then, length, slice_get}
use Rattle.gt_space.specs.declared.TheConstants.{PAGE_BYTES, HEAP_START}

-- the page in which an address lies, and how far from its start
abbrev pub page_of : ℕ → ℕ
page_of address = (address - HEAP_START) / PAGE_BYTES

abbrev pub offset_of : ℕ → ℕ
offset_of address = (address - HEAP_START) % PAGE_BYTES

-- where a block of a size stands among those that start in its page
abbrev pub place_of : (address size : ℕ) → ℕ
place_of address size = offset_of address / size

-- how many blocks of a size may start in a page
abbrev pub places_of : ℕ → ℕ
places_of size = (PAGE_BYTES - 1) / size + 1

-- For each page one thing for each block that may start in it, or nothing for a page of which nothing is known; and shelves for pages
-- to come, by how many places they have.
pub record Contents (T : Type 0) : Type 0 where
  pub shelves : List (List T)
  pub spares : List (List T)

-- a shelf is for blocks of a size
abbrev pub IsFor : {T : Type 0} → ℕ → List T → Type 0
IsFor size shelf = length shelf ≡ places_of size

-- a shelf where it has so many places, or else a spare one
abbrev pub fitting : {T : Type 0} → (places : ℕ) (shelf spare : List T) → List T
fitting places shelf spare = cond (length shelf == places) shelf spare

-- what a shelf says of the block of a size at an address
abbrev pub on_shelf : {T : Type 0} → (address size : ℕ) → List T → Option T
on_shelf address size shelf = cond (length shelf == places_of size) (slice_get shelf (place_of address size)) None

-- what is known of the block of a size at an address
abbrev pub known_at : {T : Type 0} → Contents T → (address size : ℕ) → Option T
known_at contents address size = option_and_then (on_shelf address size) (slice_get contents.shelves (page_of address))

-- a block of a size may start at an address, which lies in one of so many pages
pub record IsBlock (pages address size : ℕ) : Type 0 where
  pub large : 8 ≤ size
  pub above : HEAP_START ≤ address
  pub in_space : page_of address < pages

-- a shelf is there for a page of blocks of a size
abbrev pub IsReady : {T : Type 0} → Contents T → ℕ → Type 0
IsReady {T} contents size = (shelf : List T) × (slice_get contents.spares (places_of size) ≡ Some shelf) × IsFor size shelf

-- Two blocks are told apart: they start in different pages, or are of one size and share no byte.
abbrev pub AreTold : (address size other other_size : ℕ) → Type 0
AreTold address size other other_size = (page_of address ≢ page_of other) ⊎ ((other_size ≡ size) × ((address + size ≤ other) ⊎ (other + size ≤ address)))

-- From now on this is known of a block, and of the blocks that are told apart from it what was known before.
pub record Learns {T : Type 0} (old : Contents T) (address size : ℕ) (thing : T) (new : Contents T) : Type 0 where
  pub known : known_at new address size ≡ Some thing
  pub others : (other other_size : ℕ) (there : T) → 8 ≤ other_size → HEAP_START ≤ other → AreTold address size other other_size
      → known_at old other other_size ≡ Some there → known_at new other other_size ≡ Some there
