use Rattle.std.proofs.Common.{refl, arith}
use Rattle.gt_drafts.specs.Shapes.{member_structure}
use Rattle.gt_shapes.proofs.FilterMaps.{filter_map_more}
use Rattle.gt_shapes.proofs.tails.members_in.Goals as goal

pub loop-field-preserved : goal.loop-field-preserved
loop-field-preserved c =
    filter_map_more member_structure c.args.fields.now c.args.fields.now c.loop-field.field-index c.field-item.result c.loop-field.ids
    c.push_member.new.ids refl (omega arith) c.field-item.is c.loop-field.invariant c.in_ok-push_member.ensures.pushed
