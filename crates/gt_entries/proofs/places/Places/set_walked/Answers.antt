use Rattle.std.proofs.Common.{◌≡◌, length, set, ap, ◌∙◌, arith}
use Rattle.gt_entries.specs.Cells.{cell_at, walked}
use Rattle.gt_entries.specs.Places.{cells_of}
use Rattle.gt_entries.proofs.CellLemmas.{len_cells, same_free}
use Rattle.gt_entries.proofs.Changes.{cells_walked, kept_walked}
use Rattle.gt_entries.proofs.places.Places.set_walked.Goals as goal

pub set_walked-requires : goal.set_walked-requires
set_walked-requires c =
    let len : length (cells_of c.self.inside.count c.self.inside.sets.used c.self.inside.sets.marked c.self.inside.sets.pending c.self.inside.tags.items) ≡ length c.args.self.now = ap (λ cells. length cells) c.self.view_is in
    omega (arith, len, len_cells c.self.inside.count c.self.inside.sets.used c.self.inside.sets.marked c.self.inside.sets.pending c.self.inside.tags.items, c.requires, c.self.invariant.kept.room, c.self.invariant.kept.pending_words)

pub invariant_of-self : goal.invariant_of-self
invariant_of-self c =
    let len : length (cells_of c.self.inside.count c.self.inside.sets.used c.self.inside.sets.marked c.self.inside.sets.pending c.self.inside.tags.items) ≡ length c.args.self.now = ap (λ cells. length cells) c.self.view_is in
    rw (ap (λ s. s.used) c.set_walked.ensures.rest, ap (λ s. s.marked) c.set_walked.ensures.rest)
    (record {
      kept = kept_walked c.self.inside.count c.self.inside.sets.used c.self.inside.sets.marked c.self.inside.sets.pending c.self.inside.tags.items c.set_walked.new.self.pending c.args.k (omega (arith, len, len_cells c.self.inside.count c.self.inside.sets.used c.self.inside.sets.marked c.self.inside.sets.pending c.self.inside.tags.items, c.requires))
          c.set_walked.ensures.len c.set_walked.ensures.gone
          c.set_walked.ensures.others c.self.invariant.kept;
      free_count = c.self.invariant.free_count ∙ same_free c.self.inside.count c.self.inside.sets.used c.self.inside.sets.marked c.self.inside.sets.pending c.self.inside.sets.marked c.set_walked.new.self.pending c.self.inside.tags.items c.self.inside.tags.items;
    })

pub returns : goal.returns
returns c = record {
  walked =
      let len : length (cells_of c.self.inside.count c.self.inside.sets.used c.self.inside.sets.marked c.self.inside.sets.pending c.self.inside.tags.items) ≡ length c.args.self.now = ap (λ cells. length cells) c.self.view_is in
      rw (ap (λ s. s.used) c.set_walked.ensures.rest, ap (λ s. s.marked) c.set_walked.ensures.rest)
      (cells_walked c.self.inside.count c.self.inside.sets.used c.self.inside.sets.marked c.self.inside.sets.pending c.self.inside.tags.items c.set_walked.new.self.pending c.args.k (omega (arith, len, len_cells c.self.inside.count c.self.inside.sets.used c.self.inside.sets.marked c.self.inside.sets.pending c.self.inside.tags.items, c.requires))
      c.set_walked.ensures.len c.set_walked.ensures.gone
      c.set_walked.ensures.others c.self.invariant.kept
      ∙ ap (λ cells. set cells c.args.k (walked (cell_at cells c.args.k))) c.self.view_is);
}
