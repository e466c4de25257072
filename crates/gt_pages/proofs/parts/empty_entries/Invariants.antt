use Rattle.std.proofs.Common.{◌≡◌, replicate}
use Rattle.gt_pages.specs.Parts.{empty_entry}
use Rattle.gt_pages.proofs.parts.empty_entries.Given as goal

abbrev pub invariant-loop-i : goal.invariant-loop-i
invariant-loop-i l = l.entries.items ≡ replicate l._i empty_entry
