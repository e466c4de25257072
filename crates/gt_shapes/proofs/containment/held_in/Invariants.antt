use Rattle.std.proofs.Common.{◌≡◌, take}
use Rattle.std.specs.Prelude.{filter_map}
use Rattle.gt_drafts.specs.Shapes.{held_type}
use Rattle.gt_shapes.proofs.containment.held_in.Given as goal

-- the structures that so many fields contain
abbrev pub invariant-loop-field : goal.invariant-loop-field
invariant-loop-field l = l.ids ≡ filter_map (λ f. held_type f.ty) (take l.field-index l.s.fields)
