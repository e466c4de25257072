use Rattle.std.proofs.Common.{◌≡◌, true, false, set, sym, ap, ◌∙◌, arith}
use Rattle.gt_bits.specs.Sets.{has}
use Rattle.gt_entries.specs.Cells.{cell_at, postponed}
use Rattle.gt_entries.proofs.CellLemmas.{same_free}
use Rattle.gt_entries.proofs.Changes.{cells_none, cells_postponed, kept_postponed}
use Rattle.gt_entries.proofs.places.Places.postpone.Goals as goal

pub returns-then-not-has : goal.returns-then-not-has
returns-then-not-has c = record {
  postponed =
      let bit : has c.self.inside.sets.marked c.args.k ≡ false = ap (λ words. has words c.args.k) (sym c.marked_places.ensures) ∙ (sym c.has.ensures ∙ c.if-not-has.true) in
      sym c.self.view_is
      ∙ cells_none c.self.inside.count c.self.inside.sets.used c.self.inside.sets.marked c.self.inside.sets.pending c.self.inside.tags.items c.self.invariant.kept c.args.k bit
      ∙ ap (λ cells. set cells c.args.k (postponed (cell_at cells c.args.k))) c.self.view_is;
}

pub set_pending-requires : goal.set_pending-requires
set_pending-requires c =
    let bit : has c.self.inside.sets.marked c.args.k ≡ true = ap (λ words. has words c.args.k) (sym c.marked_places.ensures) ∙ (sym c.has.ensures ∙ c.if-not-has.false) in
    let low = c.self.invariant.kept.within c.args.k (c.self.invariant.kept.marks_used c.args.k bit) in
    omega (arith, low, c.self.invariant.kept.room, c.self.invariant.kept.pending_words)

pub invariant_of-self : goal.invariant_of-self
invariant_of-self c =
    let bit : has c.self.inside.sets.marked c.args.k ≡ true = ap (λ words. has words c.args.k) (sym c.marked_places.ensures) ∙ (sym c.has.ensures ∙ c.if-not-has.false) in
    let low = c.self.invariant.kept.within c.args.k (c.self.invariant.kept.marks_used c.args.k bit) in
    rw (ap (λ s. s.used) c.set_pending.ensures.rest, ap (λ s. s.marked) c.set_pending.ensures.rest)
    (record {
      kept = kept_postponed c.self.inside.count c.self.inside.sets.used c.self.inside.sets.marked c.self.inside.sets.pending c.self.inside.tags.items c.set_pending.new.self.pending c.args.k low bit
          c.set_pending.ensures.len c.set_pending.ensures.held c.set_pending.ensures.others c.self.invariant.kept;
      free_count = c.self.invariant.free_count ∙ same_free c.self.inside.count c.self.inside.sets.used c.self.inside.sets.marked c.self.inside.sets.pending c.self.inside.sets.marked c.set_pending.new.self.pending c.self.inside.tags.items c.self.inside.tags.items;
    })

pub returns : goal.returns
returns c = record {
  postponed =
      let bit : has c.self.inside.sets.marked c.args.k ≡ true = ap (λ words. has words c.args.k) (sym c.marked_places.ensures) ∙ (sym c.has.ensures ∙ c.if-not-has.false) in
      let low = c.self.invariant.kept.within c.args.k (c.self.invariant.kept.marks_used c.args.k bit) in
      rw (ap (λ s. s.used) c.set_pending.ensures.rest, ap (λ s. s.marked) c.set_pending.ensures.rest)
      (cells_postponed c.self.inside.count c.self.inside.sets.used c.self.inside.sets.marked c.self.inside.sets.pending c.self.inside.tags.items c.set_pending.new.self.pending c.args.k low bit
      c.set_pending.ensures.len c.set_pending.ensures.held c.set_pending.ensures.others c.self.invariant.kept
      ∙ ap (λ cells. set cells c.args.k (postponed (cell_at cells c.args.k))) c.self.view_is);
}
