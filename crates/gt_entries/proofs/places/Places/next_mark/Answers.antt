use Rattle.std.proofs.Common.{subst}
use Rattle.gt_bits.specs.Sets.{has, IsNext}
use Rattle.gt_entries.specs.Cells.{IsFirstFrom, is_marked}
use Rattle.gt_entries.specs.Places.{tag_at}
use Rattle.gt_entries.proofs.Bits.{marked_bit}
use Rattle.gt_entries.proofs.CellLemmas.{first_from}
use Rattle.gt_entries.proofs.places.Places.next_mark.Goals as goal

pub returns : goal.returns
returns c = record {
  first =
      subst (λ cells. IsFirstFrom is_marked cells c.args.from c.next.result) c.self.view_is
      (first_from c.self.inside.count c.self.inside.sets.used c.self.inside.sets.marked c.self.inside.sets.pending c.self.inside.tags.items c.self.invariant.kept c.self.inside.sets.marked is_marked c.args.from c.next.result
      (λ k. marked_bit (has c.self.inside.sets.used k) (has c.self.inside.sets.marked k) (has c.self.inside.sets.pending k) (tag_at c.self.inside.tags.items k) (c.self.invariant.kept.marks_used k))
      (λ k marked. c.self.invariant.kept.within k (c.self.invariant.kept.marks_used k marked))
      (subst (λ words. IsNext words c.args.from c.next.result) c.marked_places.ensures c.next.ensures));
}
