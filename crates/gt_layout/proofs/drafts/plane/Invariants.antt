use Rattle.std.proofs.Common.{take, map}
use Rattle.gt_layout.specs.Storages.{storages_of, held_storage}
use Rattle.gt_layout.proofs.Drafting.{IsDraft}
use Rattle.gt_layout.proofs.drafts.plane.Given as goal

abbrev pub invariant-loop-field : goal.invariant-loop-field
invariant-loop-field l =
    IsDraft l.structure.is_union (map held_storage (storages_of l.known (take l.field-index l.field-items))) l.draft.end l.draft.align l.draft.spots.items
