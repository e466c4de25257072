-- What the pages of a space hold, what each call finds there, and the lists of pages.
use Rattle.std.specs.Prelude.{◌≡◌, ℕ, ◌+◌, ◌-◌, ◌/◌, ◌<◌, ◌≤◌, ◌↔◌, ◌⊎◌, ◌==◌, if◌then◌else◌, List, [], map, length, count_by, slice_get, nat_eq, nat_le, Some, Contains}
use Rattle.std.specs.List.{IsDistinct}
use Rattle.gt_space.specs.declared.TheConstants.{MIN_PAGES, MAX_PAGES, PAGE_BYTES}
use Rattle.gt_links.specs.Lists.{Lists, empty_lists, nodes_of, Holds, StandsAt}
use Rattle.gt_pages.specs.declared.pages.PageEntry.{PageEntry}
use Rattle.gt_pages.specs.Ledger.{Ledger, PageRange, HasFreePlace, HasSharedPage, IsImagePage, Sound, page_of, sizes}
use Rattle.gt_pages.specs.Slots.{Slot, block_of}

-- the blocks by rising address, the pages of the image, the number of pages of the space, and the lists of entries; the number
-- of an entry is that of its first page
pub record Contents : Type 0 where
  pub slots : List Slot
  pub image : PageRange
  pub pages : ℕ
  pub lists : Lists

-- there are 30 lists of entries: one for each of the 29 sizes, in their order, and then that of the cached entries
abbrev pub list_count : ℕ
list_count = 30

abbrev pub cached_list : ℕ
cached_list = 29

-- so many pages without blocks
abbrev pub empty_contents : ℕ → Contents
empty_contents pages =
    record { slots = []; image = record { first = 0; count = 0 }; pages = pages; lists = empty_lists list_count pages }

-- other blocks, and all else as it was
abbrev pub with_slots : Contents → List Slot → Contents
with_slots c slots = record { slots = slots; image = c.image; pages = c.pages; lists = c.lists }

-- the blocks without their marks
abbrev pub ledger_of : Contents → Ledger
ledger_of c = record { blocks = map block_of c.slots; image = c.image; pages = c.pages }

-- the image and the number of pages are as before
pub record KeepsPages (old new : Contents) : Type 0 where
  pub image : new.image ≡ old.image
  pub pages : new.pages ≡ old.pages

-- each block starts above the one before it
abbrev pub Rises : List Slot → Type 0
Rises slots = (i : ℕ) (s t : Slot) → slice_get slots i ≡ Some s → slice_get slots (i + 1) ≡ Some t → s.address < t.address

-- what holds at all times: the blocks rise and are sound, their sizes are listed, and the space has a number of pages that it may have
pub record AreLaidOut (c : Contents) : Type 0 where
  pub rising : Rises c.slots
  pub sound : Sound (ledger_of c)
  pub listed : (s : Slot) → Contains c.slots s → Contains sizes s.size
  pub at_least : MIN_PAGES ≤ c.pages
  pub at_most : c.pages ≤ MAX_PAGES

-- size number i
abbrev pub IsSize : ℕ → ℕ → Type 0
IsSize i size = slice_get sizes i ≡ Some size

-- a block of this size starts in the page, which is none of the image
pub record StartsIn (c : Contents) (size page : ℕ) : Type 0 where
  pub outside : ¬ (IsImagePage (ledger_of c) page)
  pub slot : (s : Slot) × Contains c.slots s × (s.size ≡ size) × (page_of s.address ≡ page)

-- the lists of entries: list i has the first page of each page, or larger block, of size i outside the image, once, and those
-- with a free place stand before the full ones; a cached entry has no blocks
pub record HasLists (c : Contents) : Type 0 where
  pub count : length c.lists.lists ≡ list_count
  pub nodes : c.lists.nodes ≡ c.pages
  pub each : (i size page : ℕ) → IsSize i size → Holds c.lists i page ↔ StartsIn c size page
  pub once : (i : ℕ) → IsDistinct nat_eq (nodes_of c.lists i)
  pub order : (i size j k x y : ℕ) → IsSize i size → j < k → StandsAt c.lists i j x → StandsAt c.lists i k y
      → HasFreePlace (ledger_of c) size y → HasFreePlace (ledger_of c) size x
  pub cached : (page : ℕ) → Holds c.lists cached_list page → (size : ℕ) → ¬ (StartsIn c size page)

-- blocks outside the image start in the page
abbrev pub HasBlocks : Contents → ℕ → Type 0
HasBlocks c page = (size : ℕ) × StartsIn c size page

-- the cached entries are those that were cached, and those outside the image that have lost their last block
abbrev pub CachesEmptied : (old new : Contents) → Type 0
CachesEmptied old new = (page : ℕ)
    → Holds new.lists cached_list page ↔ (Holds old.lists cached_list page ⊎ (HasBlocks old page × ¬ (HasBlocks new page)))

-- how many blocks of this size a page has places for, or one that is larger than a page
abbrev pub places_of : ℕ → ℕ
places_of size = if nat_le size PAGE_BYTES then PAGE_BYTES / size else 1

-- an entry of this number: its first page, its size, and how many of its places have no block
pub record IsEntry (c : Contents) (page : ℕ) (entry : PageEntry) : Type 0 where
  pub first : entry.page ≡ page
  pub size : StartsIn c entry.size page
  pub free : entry.free ≡ places_of entry.size - count_by (λ s. page_of s.address == page) c.slots

-- where a page of the size has a free place, the address lies in the page of the first entry of the size's list
abbrev pub IsInFirst : Contents → (size address : ℕ) → Type 0
IsInFirst c size address =
    (i : ℕ) → IsSize i size → HasSharedPage (ledger_of c) size → slice_get (nodes_of c.lists i) 0 ≡ Some (page_of address)

-- Where a page of this size has a free place, the cached entries are as they were. Else a cached entry is used where there is one: there is
-- one less, and each that is cached now was cached before.
pub record UsesCached (old : Contents) (size : ℕ) (new : Contents) : Type 0 where
  pub shared : HasSharedPage (ledger_of old) size → nodes_of new.lists cached_list ≡ nodes_of old.lists cached_list
  pub opened : ¬ (HasSharedPage (ledger_of old) size) → length (nodes_of new.lists cached_list) ≡ length (nodes_of old.lists cached_list) - 1
  pub kept : (page : ℕ) → Holds new.lists cached_list page → Holds old.lists cached_list page
