use Rattle.std.proofs.Common.{◌≡◌, ◌*◌, drop}
use Rattle.gt_layout.specs.declared.planes.TheConstants.{MAX_SIZE}
use Rattle.gt_value.specs.Reading.{place}
use Rattle.gt_edges.specs.Walks.{place_after, place_named}
use Rattle.gt_tables.proofs.Reaching.{EndsBy}
use Rattle.gt_tables.proofs.paths.walk.Given as goal

abbrev pub invariant-loop-name : goal.invariant-loop-name
invariant-loop-name l = record {
  same : place_named l.fn.source.program.now l.fn.source.layouts.now.structures l.fn.from l.fn.steps
      ≡ place_after l.fn.source.program.now l.fn.source.layouts.now.structures (place l.cell.ty.now l.cell.at) (drop l.name-index l.rest);
  inside : EndsBy l.fn.source.layouts.now.structures (8 * MAX_SIZE) (place l.cell.ty.now l.cell.at);
}
