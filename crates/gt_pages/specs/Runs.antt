-- No promise: how the runs of an image come into the parts, one by one.
use Rattle.std.specs.Prelude.{◌≡◌, ℕ, ◌+◌, None, replicate}
use Rattle.gt_entries.specs.Cells.{Used}
use Rattle.gt_pages.specs.declared.pages.Run.{Run}
use Rattle.gt_pages.specs.declared.store.Entry.{Entry}
use Rattle.gt_pages.specs.Images.{run_pages}
use Rattle.gt_pages.specs.Changes.{Opens}
use Rattle.gt_pages.specs.Parts.{Parts}

-- the first page after those of the image
abbrev pub image_end : Parts → ℕ
image_end p = p.image.first + p.image.count

-- the entry of a run: an unmarked block at each place
abbrev pub run_entry : Run → Entry
run_entry run = record { size = run.size; places = replicate run.count (Used None) }

-- the pages after those of the image are those of a run, and of the image too
pub record AddsRun (old : Parts) (run : Run) (new : Parts) : Type 0 where
  pub image : new.image ≡ record { first = old.image.first; count = old.image.count + run_pages run }
  pub opens : Opens old (image_end old) (run_entry run) (record new { image = old.image })
