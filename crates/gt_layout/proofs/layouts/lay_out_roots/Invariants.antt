use Rattle.std.proofs.Common.{◌≤◌, ◌*◌, false, take, map}
use Rattle.gt_layout.specs.declared.planes.TheConstants.{MAX_SIZE}
use Rattle.gt_layout.specs.Storages.{held_storage}
use Rattle.gt_layout.specs.Planes.{root_storages}
use Rattle.gt_layout.proofs.Drafting.{IsDraft}
use Rattle.gt_layout.proofs.layouts.lay_out_roots.Given as goal

abbrev pub invariant-loop-place : goal.invariant-loop-place
invariant-loop-place l = record {
  draft : IsDraft false (map held_storage (root_storages l.known (take l.place l.roots))) l.draft.end l.draft.align l.draft.spots.items;
  small : l.draft.end ≤ 8 * MAX_SIZE;
}
