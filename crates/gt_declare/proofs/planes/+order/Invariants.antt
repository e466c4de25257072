use Rattle.std.proofs.Common.{◌+◌, ◌*◌, take}
use Rattle.std.specs.List.{All}
use Rattle.gt_drafts.specs.declared.draft.DraftField.{DraftField}
use Rattle.gt_declare.specs.Making.{Grows, IsHeldLaid}
use Rattle.gt_declare.proofs.planes.+order.Given as goal

abbrev pub decreases-lay_out : goal.decreases-lay_out
decreases-lay_out l = 2 * l.depth + 1

abbrev pub decreases-lay_out_inner : goal.decreases-lay_out_inner
decreases-lay_out_inner l = 2 * l.depth

abbrev pub invariant-lay_out-loop-field : goal.invariant-lay_out-loop-field
invariant-lay_out-loop-field l = record {
  grows : Grows l.draft l.fn.known.items l.known.items;
  held : All (λ (f : DraftField). IsHeldLaid l.known.items f.ty) (take l.field-index l.field-items);
}
