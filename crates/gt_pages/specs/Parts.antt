-- No promise: how the contents stand in the entries, the sets of pages, the table and the lists.
use Rattle.std.specs.Prelude.{◌≡◌, ℕ, ◌+◌, ◌*◌, ◌^◌, ◌<◌, ◌≤◌, ◌↔◌, ◌⊎◌, true, false, if◌then◌else◌, List, [], ◌∷◌, length, Option, flat_map, slice_index_or, count_by, Some, None, Contains}
use Rattle.std.specs.List.{range_with_len}
use Rattle.gt_space.specs.declared.TheConstants.{MIN_PAGES, MAX_PAGES}
use Rattle.gt_bits.specs.Sets.{has}
use Rattle.gt_links.specs.Lists.{Lists, Holds, StandsAt}
use Rattle.gt_entries.specs.Cells.{Cell, Free, Used, is_free}
use Rattle.gt_pages.specs.declared.pages.TheConstants.{LISTS, CACHED}
use Rattle.gt_pages.specs.declared.store.Entry.{Entry}
use Rattle.gt_pages.specs.declared.store.Store.{Store}
use Rattle.gt_pages.specs.Ledger.{PageRange, page_address, pages_of, sizes}
use Rattle.gt_pages.specs.Slots.{Slot}
use Rattle.gt_pages.specs.Tables.{page_at}
use Rattle.gt_pages.specs.Contents.{Contents, IsSize, places_of}

-- the blocks at the places of an entry, of which the first starts at an address
abbrev pub slots_in : (address size : ℕ) → List Cell → List Slot
slots_in address size [] = []
slots_in address size (Free ∷ cells) = slots_in (address + size) size cells
slots_in address size (Used mark ∷ cells) = record { address = address; size = size; mark = mark } ∷ slots_in (address + size) size cells

-- an entry without places
abbrev pub empty_entry : Entry
empty_entry = record { size = 0; places = [] }

-- the entry of a number
abbrev pub entry_at : List Entry → ℕ → Entry
entry_at entries page = slice_index_or entries page empty_entry

-- the parts: the number of pages, the pages of the image, the entries, each under the number of its first page, the first pages
-- of the entries in use, the free pages, where each page leads, and the lists
pub record Parts : Type 0 where
  pub pages : ℕ
  pub image : PageRange
  pub entries : List Entry
  pub starts : List ℕ
  pub free : List ℕ
  pub table : List (Option ℕ)
  pub lists : Lists

abbrev pub parts_of : Store → Parts
parts_of p = record {
  pages = p.pages;
  image = record { first = p.image_first; count = p.image_count };
  entries = p.entries.items;
  starts = p.starts;
  free = p.free.items;
  table = p.table;
  lists = p.lists;
}

-- the blocks of the entry that starts at a page, where one does
abbrev pub page_slots : Parts → ℕ → List Slot
page_slots p page =
    let entry = entry_at p.entries page in
    if has p.starts page then slots_in (page_address page) entry.size entry.places else []

-- what the pages hold
abbrev pub contents_of : Parts → Contents
contents_of p = record {
  slots = flat_map (page_slots p) (range_with_len 0 p.pages);
  image = p.image;
  pages = p.pages;
  lists = p.lists;
}

-- a page of the image
abbrev pub IsOfImage : Parts → ℕ → Type 0
IsOfImage p page = (p.image.first ≤ page) × (page < p.image.first + p.image.count)

-- how many pages an entry has
abbrev pub entry_pages : Entry → ℕ
entry_pages entry = pages_of (entry.size * length entry.places)

-- an entry in use that starts at a page: its size is listed, its pages lie in the space, all in the image or all outside it,
-- and outside it has as many places as its pages have room for, of which one has a block
pub record IsInUse (p : Parts) (page : ℕ) (entry : Entry) : Type 0 where
  pub listed : Contains sizes entry.size
  pub some : 1 ≤ length entry.places
  pub in_space : page + entry_pages entry ≤ p.pages
  pub table : (q : ℕ) → page ≤ q → q < page + entry_pages entry → page_at p.table q ≡ Some page
  pub inside : IsOfImage p page → page + entry_pages entry ≤ p.image.first + p.image.count
  pub before : page < p.image.first → 1 ≤ p.image.count → page + entry_pages entry ≤ p.image.first
  pub count : ¬ (IsOfImage p page) → length entry.places ≡ places_of entry.size
  pub used : ¬ (IsOfImage p page) → count_by is_free entry.places < length entry.places

-- an entry in use outside the image, of this size
pub record IsListed (p : Parts) (size page : ℕ) : Type 0 where
  pub starts : has p.starts page ≡ true
  pub outside : ¬ (IsOfImage p page)
  pub sized : (entry_at p.entries page).size ≡ size

-- how many places of an entry are free
abbrev pub free_places : Parts → ℕ → ℕ
free_places p page = count_by is_free (entry_at p.entries page).places

-- what holds of the lists: list i has the entries of size i outside the image, each once, and those with a free place
-- stand before the full ones; a cached entry is not in use
pub record AreListed (p : Parts) : Type 0 where
  pub count : length p.lists.lists ≡ LISTS
  pub nodes : p.lists.nodes ≡ p.pages
  pub each : (i size page : ℕ) → IsSize i size → Holds p.lists i page ↔ IsListed p size page
  pub order : (i j k x y : ℕ) → i < CACHED → j < k → StandsAt p.lists i j x → StandsAt p.lists i k y
      → 0 < free_places p y → 0 < free_places p x
  pub cached : (page : ℕ) → Holds p.lists CACHED page → has p.starts page ≡ false

-- the parts fit one another: what the table says of each page, which pages are free, what the entries in use are, and the lists
pub record IsKept (p : Parts) : Type 0 where
  pub at_least : MIN_PAGES ≤ p.pages
  pub at_most : p.pages ≤ MAX_PAGES
  pub entries : length p.entries ≡ p.pages
  pub start_words : (p.pages ≤ 64 * length p.starts) × (64 * length p.starts < 2 ^ 32)
  pub free_words : (p.pages ≤ 64 * length p.free) × (64 * length p.free < 2 ^ 32)
  pub table : length p.table ≡ p.pages
  pub image : p.image.first + p.image.count ≤ p.pages
  pub starts : (page : ℕ) → has p.starts page ≡ true → page < p.pages
  pub in_use : (page : ℕ) → has p.starts page ≡ true → IsInUse p page (entry_at p.entries page)
  pub leads : (page first : ℕ) → page_at p.table page ≡ Some first → (has p.starts first ≡ true) × (first ≤ page) × (page < first + entry_pages (entry_at p.entries first))
  pub free : (page : ℕ) → has p.free page ≡ true → (page < p.pages) × (page_at p.table page ≡ None) × (¬ (IsOfImage p page))
  pub taken : (page : ℕ) → page < p.pages → has p.free page ≡ false → (IsOfImage p page) ⊎ ((first : ℕ) × (page_at p.table page ≡ Some first))
  pub lists : AreListed p
