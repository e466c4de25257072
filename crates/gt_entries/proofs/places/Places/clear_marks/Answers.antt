use Rattle.std.proofs.Common.{length, map, refl, ap, ◌∙◌}
use Rattle.gt_entries.specs.Cells.{unmarked}
use Rattle.gt_entries.proofs.CellLemmas.{same_free}
use Rattle.gt_entries.proofs.Changes.{cells_clear, kept_fill}
use Rattle.gt_entries.proofs.places.Places.clear_marks.Goals as goal

pub invariant_of-self : goal.invariant_of-self
invariant_of-self c =
    rw (ap (λ s. s.used) c.clear_pending.ensures.rest, ap (λ s. s.marked) c.clear_pending.ensures.rest, ap (λ s. s.used) c.clear_marked.ensures.rest)
    (record {
      kept = kept_fill c.self.inside.count c.self.inside.sets.used c.self.inside.sets.marked c.self.inside.sets.pending c.self.inside.tags.items c.self.inside.sets.used c.clear_marked.new.self.marked c.clear_pending.new.self.pending c.self.invariant.kept refl (λ i high. refl)
          c.clear_marked.ensures.len c.clear_marked.ensures.gone (c.clear_pending.ensures.len ∙ ap (λ s. length s.pending) c.clear_marked.ensures.rest) c.clear_pending.ensures.gone;
      free_count = c.self.invariant.free_count ∙ same_free c.self.inside.count c.self.inside.sets.used c.self.inside.sets.marked c.self.inside.sets.pending c.clear_marked.new.self.marked c.clear_pending.new.self.pending c.self.inside.tags.items c.self.inside.tags.items;
    })

pub returns : goal.returns
returns c = record {
  unmarked =
      rw (ap (λ s. s.used) c.clear_pending.ensures.rest, ap (λ s. s.marked) c.clear_pending.ensures.rest, ap (λ s. s.used) c.clear_marked.ensures.rest)
      (cells_clear c.self.inside.count c.self.inside.sets.used c.self.inside.sets.marked c.self.inside.sets.pending c.self.inside.tags.items c.clear_marked.new.self.marked c.clear_pending.new.self.pending c.clear_marked.ensures.gone
      ∙ ap (λ cells. map unmarked cells) c.self.view_is);
}
