use Rattle.std.proofs.Common.{IsTrue, take}
use Rattle.std.specs.List.{All}
use Rattle.gt_types.specs.declared.program.Field.{Field}
use Rattle.gt_layout.specs.Storages.{storage_of}
use Rattle.gt_layout.specs.Planes.{is_placeable}
use Rattle.gt_layout.proofs.drafts.can_place.Given as goal

abbrev pub invariant-loop-field : goal.invariant-loop-field
invariant-loop-field l = All (λ (f : Field). IsTrue (is_placeable (storage_of l.known f.ty))) (take l.field-index l.field-items)
