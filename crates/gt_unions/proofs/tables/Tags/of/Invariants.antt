use Rattle.std.proofs.Common.{◌≡◌, [], drop}
use Rattle.gt_unions.specs.Tables.{tags_from}
use Rattle.gt_unions.proofs.tables.Tags.of.Given as goal

abbrev pub invariant-loop-place : goal.invariant-loop-place
invariant-loop-place l = tags_from l.tags l.place (drop l.place l.fields) ≡ tags_from [] 0 l.fields
