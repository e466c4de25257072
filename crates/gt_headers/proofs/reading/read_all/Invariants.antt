use Rattle.std.proofs.Common.{take}
use Rattle.gt_headers.specs.Reading.{AreRead}
use Rattle.gt_headers.proofs.reading.read_all.Given as goal

-- the texts so far are read
abbrev pub invariant-loop-place : goal.invariant-loop-place
invariant-loop-place l = AreRead (take l.place l.texts) l.files.items
