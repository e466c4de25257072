use Rattle.std.proofs.Common.{subst}
use Rattle.gt_bits.specs.Sets.{has, IsNext}
use Rattle.gt_entries.specs.Cells.{IsFirstFrom, is_pending}
use Rattle.gt_entries.specs.Places.{tag_at}
use Rattle.gt_entries.proofs.Bits.{pending_bit}
use Rattle.gt_entries.proofs.CellLemmas.{first_from}
use Rattle.gt_entries.proofs.places.Places.next_pending.Goals as goal

pub returns : goal.returns
returns c = record {
  first =
      subst (λ cells. IsFirstFrom is_pending cells c.args.from c.next.result) c.self.view_is
      (first_from c.self.inside.count c.self.inside.sets.used c.self.inside.sets.marked c.self.inside.sets.pending c.self.inside.tags.items c.self.invariant.kept c.self.inside.sets.pending is_pending c.args.from c.next.result
      (λ k. pending_bit (has c.self.inside.sets.used k) (has c.self.inside.sets.marked k) (has c.self.inside.sets.pending k) (tag_at c.self.inside.tags.items k) (c.self.invariant.kept.marks_used k) (c.self.invariant.kept.pending_marked k))
      (λ k pending. c.self.invariant.kept.within k (c.self.invariant.kept.marks_used k (c.self.invariant.kept.pending_marked k pending)))
      (subst (λ words. IsNext words c.args.from c.next.result) c.pending_places.ensures c.next.ensures));
}
