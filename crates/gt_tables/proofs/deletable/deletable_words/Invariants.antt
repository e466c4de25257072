use Rattle.std.proofs.Common.{◌≡◌, take}
use Rattle.gt_edges.specs.Deletable.{deletable_words}
use Rattle.gt_tables.proofs.deletable.deletable_words.Given as goal

abbrev pub invariant-loop-place : goal.invariant-loop-place
invariant-loop-place l = l.words.items ≡ deletable_words l.layouts.structures l.start (take l.place l.program.roots) l.layouts.statics.fields
