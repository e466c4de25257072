-- No promise: what calls do to the parts.
use Rattle.std.specs.Prelude.{◌≡◌, ℕ, ◌+◌, ◌-◌, ◌*◌, ◌/◌, ◌<◌, ◌≤◌, ◌==◌, ◌⊎◌, ◌↔◌, true, false, ◌≢◌, if◌then◌else◌, List, [], ◌∷◌, length, filter, map, replicate, slice_set, IsTrue, Some, None}
use Rattle.gt_bits.specs.Sets.{has}
use Rattle.gt_links.specs.Lists.{Lists, Holds, empty_lists, nodes_of, with_nodes, without}
use Rattle.gt_entries.specs.Cells.{Used, swept, unmarked}
use Rattle.gt_pages.specs.Ledger.{Block}
use Rattle.gt_pages.specs.Counts.{bytes_of, count_of}
use Rattle.gt_pages.specs.Slots.{is_marked}
use Rattle.gt_pages.specs.Tables.{Leads}
use Rattle.gt_pages.specs.declared.pages.TheConstants.{LISTS, CACHED}
use Rattle.gt_pages.specs.declared.store.Entry.{Entry}
use Rattle.gt_pages.specs.Parts.{IsOfImage, Parts, empty_entry, entry_at, entry_pages, page_slots}

-- what new pages are made of
pub record IsNew (p : Parts) : Type 0 where
  pub image : p.image ≡ record { first = 0; count = 0 }
  pub entries : p.entries ≡ replicate p.pages empty_entry
  pub start_words : length p.starts ≡ (p.pages + 63) / 64
  pub starts : (i : ℕ) → has p.starts i ≡ false
  pub free_words : length p.free ≡ (p.pages + 63) / 64
  pub free : (i : ℕ) → IsTrue (has p.free i) ↔ (i < p.pages)
  pub table : p.table ≡ replicate p.pages None
  pub lists : p.lists ≡ empty_lists LISTS p.pages

-- the parts with another entry of this number
abbrev pub with_entry : Parts → ℕ → Entry → Parts
with_entry p page entry = record p { entries = slice_set p.entries page entry }

-- the parts with an unmarked block at a place of an entry
abbrev pub with_place : Parts → (page place : ℕ) → Parts
with_place p page place =
    let entry = entry_at p.entries page in
    with_entry p page (record { size = entry.size; places = slice_set entry.places place (Used None) })

-- the entry, and its blocks without their marks
abbrev pub cleared_entry : Entry → Entry
cleared_entry entry = record { size = entry.size; places = map unmarked entry.places }

-- the entries in use below a page have no marks now, and all else is as it was
pub record ClearsMarks (old : Parts) (end : ℕ) (new : Parts) : Type 0 where
  pub entries : length new.entries ≡ length old.entries
  pub rest : new ≡ record old { entries = new.entries }
  pub cleared : (page : ℕ) → page < end → has old.starts page ≡ true
      → entry_at new.entries page ≡ cleared_entry (entry_at old.entries page)
  pub others : (page : ℕ) → (has old.starts page ≡ false) ⊎ (end ≤ page)
      → entry_at new.entries page ≡ entry_at old.entries page

-- the parts with a cached entry released: it has no places, and is not cached
abbrev pub without_cached : Parts → ℕ → Parts
without_cached p node = record p {
  entries = slice_set p.entries node (record { size = (entry_at p.entries node).size; places = [] });
  lists = with_nodes p.lists CACHED (without node (nodes_of p.lists CACHED));
}

-- the parts with the memory of an entry taken: it has no places
abbrev pub without_places : Parts → ℕ → Parts
without_places p node = with_entry p node (record { size = (entry_at p.entries node).size; places = [] })

-- cached entries were released: each entry in use is as it was, and so are the other lists and all else
pub record Releases (old new : Parts) : Type 0 where
  pub entries : length new.entries ≡ length old.entries
  pub rest : new ≡ record old { entries = new.entries; lists = with_nodes old.lists CACHED (nodes_of new.lists CACHED) }
  pub in_use : (page : ℕ) → has old.starts page ≡ true → entry_at new.entries page ≡ entry_at old.entries page

-- one cached entry was used, where there was one, and none is cached that was not
pub record UsesOne (old new : Lists) : Type 0 where
  pub fewer : length (nodes_of new CACHED) ≡ length (nodes_of old CACHED) - 1
  pub kept : (page : ℕ) → Holds new CACHED page → Holds old CACHED page

-- the entry without the blocks that are not marked
abbrev pub swept_entry : Entry → Entry
swept_entry entry = record { size = entry.size; places = map swept entry.places }

-- the parts with an entry moved to the front of list i
abbrev pub with_first : Parts → (i page : ℕ) → Parts
with_first p i page = record p { lists = with_nodes p.lists i (page ∷ without page (nodes_of p.lists i)) }

-- the parts with other nodes in list i
abbrev pub with_list : Parts → ℕ → List ℕ → Parts
with_list p i nodes = record p { lists = with_nodes p.lists i nodes }

-- the lists with an entry moved from list i to the front of the cached ones
abbrev pub to_cached : Lists → (i page : ℕ) → Lists
to_cached s i page = with_nodes (with_nodes s i (without page (nodes_of s i))) CACHED (page ∷ nodes_of (with_nodes s i (without page (nodes_of s i))) CACHED)

-- an entry is in use no more: its pages are free and lead nowhere, and it is cached
pub record Closes (old : Parts) (page : ℕ) (new : Parts) : Type 0 where
  pub rest : new ≡ record old { starts = new.starts; free = new.free; table = new.table; lists = new.lists }
  pub start_words : length new.starts ≡ length old.starts
  pub gone : has new.starts page ≡ false
  pub starts : (j : ℕ) → j ≢ page → has new.starts j ≡ has old.starts j
  pub table : Leads old.table page (entry_pages (entry_at old.entries page)) None new.table
  pub free_words : length new.free ≡ length old.free
  pub freed : (j : ℕ) → page ≤ j → j < page + entry_pages (entry_at old.entries page) → has new.free j ≡ true
  pub free : (j : ℕ) → (j < page) ⊎ (page + entry_pages (entry_at old.entries page) ≤ j) → has new.free j ≡ has old.free j
  pub lists : (i : ℕ) → Holds old.lists i page → new.lists ≡ to_cached old.lists i page
  pub unlisted : (i j : ℕ) → Holds old.lists i page → ¬ (Holds (with_nodes old.lists i (without page (nodes_of old.lists i))) j page)

-- pages from one on are those of a new entry: they lead to it and are free no more, and all else is as it was
pub record Opens (old : Parts) (page : ℕ) (entry : Entry) (new : Parts) : Type 0 where
  pub rest : new ≡ record old { entries = new.entries; starts = new.starts; free = new.free; table = new.table }
  pub entries : new.entries ≡ slice_set old.entries page entry
  pub start_words : length new.starts ≡ length old.starts
  pub start : has new.starts page ≡ true
  pub starts : (j : ℕ) → j ≢ page → has new.starts j ≡ has old.starts j
  pub table : Leads old.table page (entry_pages entry) (Some page) new.table
  pub free_words : length new.free ≡ length old.free
  pub taken : (j : ℕ) → page ≤ j → j < page + entry_pages entry → has new.free j ≡ false
  pub free : (j : ℕ) → (j < page) ⊎ (page + entry_pages entry ≤ j) → has new.free j ≡ has old.free j

-- the entry of page j, outside the image, is this one, and is in use no more
pub record IsClosed (old : Parts) (page : ℕ) (new : Parts) (j : ℕ) : Type 0 where
  pub same : j ≡ page
  pub outside : ¬ (IsOfImage old page)
  pub gone : has new.starts page ≡ false

-- the blocks of an entry that are not marked are gone, and the blocks of the other entries are as they were; the entry is in use
-- no more where it is cached now
pub record Sweeps (old : Parts) (page : ℕ) (new : Parts) : Type 0 where
  pub pages : new.pages ≡ old.pages
  pub image : new.image ≡ old.image
  pub swept : page_slots new page ≡ filter is_marked (page_slots old page)
  pub others : (j : ℕ) → j ≢ page → page_slots new j ≡ page_slots old j
  pub cached : (j : ℕ) → Holds new.lists CACHED j ↔ (Holds old.lists CACHED j ⊎ IsClosed old page new j)
  pub starts : (j : ℕ) → j ≢ page → has new.starts j ≡ has old.starts j

-- these are so many blocks, all of this size
pub record IsRunOf (size count : ℕ) (run : List Block) : Type 0 where
  pub many : length run ≡ count
  pub sized : (other : ℕ) → count_of other run ≡ (if size == other then count else 0)
  pub bytes : bytes_of run ≡ size * count
