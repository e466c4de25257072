use Rattle.std.proofs.Common.{length, replicate, None, sym, ap, ◌∙◌}
use Rattle.gt_bits.specs.Sets.{has}
use Rattle.gt_entries.specs.Cells.{Used}
use Rattle.gt_entries.proofs.CellLemmas.{len_cells, none_free}
use Rattle.gt_entries.proofs.Changes.{cells_fill, kept_fill}
use Rattle.gt_entries.proofs.places.Places.fill.Goals as goal

pub invariant_of-self : goal.invariant_of-self
invariant_of-self c =
    rw (ap (λ s. s.marked) c.take_all.ensures.rest, ap (λ s. s.pending) c.take_all.ensures.rest, ap (λ s. s.marked) c.clear_pending.ensures.rest)
    (record {
      kept = kept_fill c.self.inside.count c.self.inside.sets.used c.self.inside.sets.marked c.self.inside.sets.pending c.self.inside.tags.items c.take_all.new.self.used c.clear_marked.new.self.marked c.clear_pending.new.self.pending c.self.invariant.kept
          (c.take_all.ensures.len ∙ ap (λ s. length s.used) c.clear_pending.ensures.rest ∙ ap (λ s. length s.used) c.clear_marked.ensures.rest)
          (λ i high. c.take_all.ensures.others i high ∙ ap (λ s. has s.used i) c.clear_pending.ensures.rest ∙ ap (λ s. has s.used i) c.clear_marked.ensures.rest)
          c.clear_marked.ensures.len c.clear_marked.ensures.gone (c.clear_pending.ensures.len ∙ ap (λ s. length s.pending) c.clear_marked.ensures.rest) c.clear_pending.ensures.gone;
      free_count = sym (none_free c.self.inside.count c.take_all.new.self.used c.clear_marked.new.self.marked c.clear_pending.new.self.pending c.self.inside.tags.items c.take_all.ensures.held);
    })

pub returns : goal.returns
returns c = record {
  used =
      rw (ap (λ s. s.marked) c.take_all.ensures.rest, ap (λ s. s.pending) c.take_all.ensures.rest, ap (λ s. s.marked) c.clear_pending.ensures.rest)
      (cells_fill c.self.inside.count c.self.inside.sets.used c.self.inside.sets.marked c.self.inside.sets.pending c.self.inside.tags.items c.take_all.new.self.used c.clear_marked.new.self.marked c.clear_pending.new.self.pending c.take_all.ensures.held c.clear_marked.ensures.gone
      ∙ ap (λ n. replicate n (Used None)) (sym (len_cells c.self.inside.count c.self.inside.sets.used c.self.inside.sets.marked c.self.inside.sets.pending c.self.inside.tags.items) ∙ ap (λ cells. length cells) c.self.view_is));
}
