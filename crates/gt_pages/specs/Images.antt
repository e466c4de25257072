-- The blocks of an image: runs of blocks of rising sizes, each from the start of a page.
use Rattle.std.specs.Prelude.{◌≡◌, ℕ, zero, suc, ◌+◌, ◌*◌, ◌<◌, ◌≤◌, List, [], ◌∷◌, ◌++◌, All, Contains}
use Rattle.gt_pages.specs.declared.pages.Run.{Run}
use Rattle.gt_pages.specs.Ledger.{page_address, pages_of, sizes}
use Rattle.gt_pages.specs.Slots.{Slot, slot_at}
use Rattle.gt_links.specs.Lists.{empty_lists}
use Rattle.gt_pages.specs.Contents.{Contents, list_count}

-- how many pages a run takes up
abbrev pub run_pages : Run → ℕ
run_pages run = pages_of (run.size * run.count)

-- how many pages the runs take up, each in pages of its own
abbrev pub image_pages : List Run → ℕ
image_pages [] = 0
image_pages (run ∷ runs) = run_pages run + image_pages runs

-- so many blocks of a size, one after another
abbrev pub slots_from : (address size count : ℕ) → List Slot
slots_from address size zero = []
slots_from address size (suc count) = slot_at address size ∷ slots_from (address + size) size count

-- the blocks of the runs, the first run from the start of a page and each further one from the start of the next page
abbrev pub image_slots : ℕ → List Run → List Slot
image_slots page [] = []
image_slots page (run ∷ runs) = slots_from (page_address page) run.size run.count ++ image_slots (page + run_pages run) runs

-- the sizes of the runs rise, all above this one
abbrev pub RiseFrom : ℕ → List Run → Type 0
RiseFrom size [] = Unit {0}
RiseFrom size (run ∷ runs) = (size < run.size) × RiseFrom run.size runs

-- runs that an image may have: of listed sizes, which rise, with at least one block each
pub record AreRuns (runs : List Run) : Type 0 where
  pub listed : All (λ run. Contains sizes run.size) runs
  pub rising : RiseFrom 0 runs
  pub some : All (λ run. 1 ≤ run.count) runs

-- the pages hold the blocks of these runs from a page on, and nothing else; so no list has an entry, and none is cached
pub record IsImage (old : Contents) (page : ℕ) (runs : List Run) (new : Contents) : Type 0 where
  pub slots : new.slots ≡ image_slots page runs
  pub image : new.image ≡ record { first = page; count = image_pages runs }
  pub pages : new.pages ≡ old.pages
  pub lists : new.lists ≡ empty_lists list_count old.pages
