use Rattle.std.proofs.Common.{◌≡◌, take}
use Rattle.gt_unions.proofs.Candidates.{SoFar}
use Rattle.gt_unions.proofs.commons.candidate.Given as goal

abbrev pub invariant-loop-f : goal.invariant-loop-f
invariant-loop-f l = SoFar l.program l.structure (take l.f-index l.f-items) l.found × (l.f-items ≡ l.structure.fields)
