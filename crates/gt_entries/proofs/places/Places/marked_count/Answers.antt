use Rattle.std.proofs.Common.{length, count_by, ap, ◌∙◌}
use Rattle.gt_bits.specs.Sets.{members}
use Rattle.gt_entries.specs.Cells.{is_marked}
use Rattle.gt_entries.proofs.CellLemmas.{count_marked}
use Rattle.gt_entries.proofs.places.Places.marked_count.Goals as goal

pub returns : goal.returns
returns c = record {
  count =
      c.count.ensures ∙ ap (λ words. length (members words)) c.marked_places.ensures
      ∙ count_marked c.self.inside.count c.self.inside.sets.used c.self.inside.sets.marked c.self.inside.sets.pending c.self.inside.tags.items c.self.invariant.kept
      ∙ ap (λ cells. count_by is_marked cells) c.self.view_is;
}
