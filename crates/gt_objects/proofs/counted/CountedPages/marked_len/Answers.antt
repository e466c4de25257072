use Rattle.std.proofs.Common.{◌∙◌, ap}
use Rattle.std.specs.Prelude.{filter, length}
use Rattle.std.proofs.lemmas.List.{length-map}
use Rattle.gt_pages.specs.Slots.{block_of, is_marked}
use Rattle.gt_pages.specs.Contents.{Contents}
use Rattle.gt_objects.proofs.counted.CountedPages.marked_len.Goals as goal

pub returns : goal.returns
returns c = record {
  len =
      c.len.ensures
      ∙ c.marked_totals.ensures.totals.many
      ∙ length-map (filter is_marked c.self.inside.pages.slots) block_of
      ∙ ap (λ (p : Contents). length (filter is_marked p.slots)) c.self.view_is;
}
