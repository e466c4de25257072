use Rattle.std.proofs.Common.{length, sym, ap, ◌∙◌}
use Rattle.gt_entries.proofs.CellLemmas.{len_cells}
use Rattle.gt_entries.proofs.places.Places.len.Goals as goal

pub returns : goal.returns
returns c = record {
  count =
      sym (len_cells c.self.inside.count c.self.inside.sets.used c.self.inside.sets.marked c.self.inside.sets.pending c.self.inside.tags.items) ∙ ap (λ cells. length cells) c.self.view_is;
}
