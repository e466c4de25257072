use Rattle.std.proofs.Common.{◌≡◌, drop}
use Rattle.gt_value.specs.Reading.{place, walk_on, walk_to}
use Rattle.gt_value.proofs.sources.Source.walk.Given as goal

abbrev pub invariant-loop-name : goal.invariant-loop-name
invariant-loop-name l =
    walk_to l.fn.self.program.now l.fn.self.layouts.now.structures l.fn.end l.fn.from l.fn.steps
    ≡ walk_on l.fn.self.program.now l.fn.self.layouts.now.structures l.fn.end (place l.cell.ty.now l.cell.at) (drop l.name-index l.rest)
