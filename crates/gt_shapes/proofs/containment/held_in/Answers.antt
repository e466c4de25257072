use Rattle.std.proofs.Common.{arith}
use Rattle.gt_shapes.proofs.FilterMaps.{filter_map_more}
use Rattle.gt_drafts.specs.Shapes.{held_type}
use Rattle.gt_shapes.proofs.containment.held_in.Goals as goal

pub loop-field-preserved : goal.loop-field-preserved
loop-field-preserved c =
    filter_map_more (λ f. held_type f.ty) c.as_slice-field-items.result.now c.args.s.now.fields c.loop-field.field-index c.field-item.result c.loop-field.ids
    c.push_inner.new.ids c.as_slice-field-items.ensures.items (omega arith) c.field-item.is c.loop-field.invariant c.in_ok-push_inner.ensures.pushed
