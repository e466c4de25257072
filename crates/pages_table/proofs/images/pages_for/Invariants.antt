use Rattle.std.proofs.Common.{◌≡◌, ◌+◌, drop}
use Rattle.gt_pages.specs.Images.{image_pages}
use Rattle.pages_table.proofs.images.pages_for.Given as goal

abbrev pub invariant-loop-run : goal.invariant-loop-run
invariant-loop-run l = l.need + image_pages (drop l.run-index l.runs) ≡ image_pages l.runs
