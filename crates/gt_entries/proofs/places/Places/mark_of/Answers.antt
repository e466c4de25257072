use Rattle.std.proofs.Common.{◌≡◌, true, false, cond, Some, None, sym, ap, ◌∙◌, arith}
use Rattle.std.proofs.lemmas.List.{get_or_default}
use Rattle.gt_bits.specs.Sets.{has}
use Rattle.gt_entries.specs.Cells.{cell_at, mark_in}
use Rattle.gt_entries.specs.Places.{tag_at}
use Rattle.gt_entries.proofs.Bits.{mark_from}
use Rattle.gt_entries.proofs.Changes.{mark_at}
use Rattle.gt_entries.proofs.places.Places.mark_of.Goals as goal

pub returns-then-not-has : goal.returns-then-not-has
returns-then-not-has c = record {
  mark =
      let bit : has c.self.inside.sets.marked c.args.k ≡ false = ap (λ words. has words c.args.k) (sym c.marked_places.ensures) ∙ (sym c.has.ensures ∙ c.if-not-has.true) in
      sym (ap (λ b. cond b (Some (mark_from (has c.self.inside.sets.pending c.args.k) (tag_at c.self.inside.tags.items c.args.k))) None) bit)
      ∙ sym (mark_at c.self.inside.count c.self.inside.sets.used c.self.inside.sets.marked c.self.inside.sets.pending c.self.inside.tags.items c.self.invariant.kept c.args.k)
      ∙ ap (λ cells. mark_in (cell_at cells c.args.k)) c.self.view_is;
}

pub returns : goal.returns
returns c = record {
  mark =
      let bit : has c.self.inside.sets.marked c.args.k ≡ true = ap (λ words. has words c.args.k) (sym c.marked_places.ensures) ∙ (sym c.has.ensures ∙ c.if-not-has.false) in
      let low = c.self.invariant.kept.within c.args.k (c.self.invariant.kept.marks_used c.args.k bit) in
      let tag : c.index-tag.result.now ≡ tag_at c.self.inside.tags.items c.args.k =
      c.index-tag.ensures ∙ get_or_default c.self.inside.tags.items c.args.k c.index-tag.result.now _ (omega (arith, low, c.self.invariant.kept.tag_count)) in
      let pending : c.has-2.result ≡ has c.self.inside.sets.pending c.args.k = c.has-2.ensures ∙ ap (λ words. has words c.args.k) c.pending_places.ensures in
      ap (λ t. Some (mark_from c.has-2.result t)) tag
      ∙ ap (λ b. Some (mark_from b (tag_at c.self.inside.tags.items c.args.k))) pending
      ∙ sym (ap (λ b. cond b (Some (mark_from (has c.self.inside.sets.pending c.args.k) (tag_at c.self.inside.tags.items c.args.k))) None) bit)
      ∙ sym (mark_at c.self.inside.count c.self.inside.sets.used c.self.inside.sets.marked c.self.inside.sets.pending c.self.inside.tags.items c.self.invariant.kept c.args.k)
      ∙ ap (λ cells. mark_in (cell_at cells c.args.k)) c.self.view_is;
}
