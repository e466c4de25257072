use Rattle.std.proofs.Common.{◌≡◌, take}
use Rattle.std.specs.Prelude.{filter_map}
use Rattle.gt_drafts.specs.Shapes.{member_structure}
use Rattle.gt_shapes.proofs.tails.members_in.Given as goal

-- the members among so many fields
abbrev pub invariant-loop-field : goal.invariant-loop-field
invariant-loop-field l = l.ids ≡ filter_map member_structure (take l.field-index l.fields)
