use Rattle.std.proofs.Common.{not, sym, ap, ◌∙◌}
use Rattle.gt_bits.specs.Sets.{has}
use Rattle.gt_entries.specs.Cells.{cell_at, is_free}
use Rattle.gt_entries.specs.Places.{tag_at}
use Rattle.gt_entries.proofs.Bits.{used_bit}
use Rattle.gt_entries.proofs.CellLemmas.{place_at}
use Rattle.gt_entries.proofs.places.Places.is_used.Goals as goal

pub returns : goal.returns
returns c = record {
  used =
      c.has.ensures ∙ ap (λ words. has words c.args.k) c.used_places.ensures
      ∙ used_bit (has c.self.inside.sets.used c.args.k) (has c.self.inside.sets.marked c.args.k) (has c.self.inside.sets.pending c.args.k) (tag_at c.self.inside.tags.items c.args.k)
      ∙ ap (λ x. not (is_free x)) (sym (place_at c.self.inside.count c.self.inside.sets.used c.self.inside.sets.marked c.self.inside.sets.pending c.self.inside.tags.items c.self.invariant.kept c.args.k))
      ∙ ap (λ cells. not (is_free (cell_at cells c.args.k))) c.self.view_is;
}
