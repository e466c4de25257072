use Rattle.std.proofs.Common.{count_by, ap, ◌∙◌}
use Rattle.gt_entries.specs.Cells.{is_free}
use Rattle.gt_entries.proofs.places.Places.free_count.Goals as goal

pub returns : goal.returns
returns c = record {
  count = c.self.invariant.free_count ∙ ap (λ cells. count_by is_free cells) c.self.view_is;
}
