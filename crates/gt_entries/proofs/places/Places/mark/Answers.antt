use Rattle.std.proofs.Common.{◌≡◌, true, false, not, length, set, Some, sym, ap, ◌∙◌, arith}
use Rattle.gt_bits.specs.Sets.{has}
use Rattle.gt_entries.specs.Cells.{Used, cell_at, is_free, is_marked}
use Rattle.std.proofs.lemmas.Bool.{not-false, not-true}
use Rattle.gt_entries.proofs.CellLemmas.{same_free}
use Rattle.gt_entries.proofs.Changes.{cells_mark, kept_mark, marked_at, used_at}
use Rattle.gt_entries.proofs.places.Places.mark.Goals as goal

pub returns-then-not-mark-clause-fresh : goal.returns-then-not-mark-clause-fresh
returns-then-not-mark-clause-fresh c =
    let bit : has c.self.inside.sets.marked c.args.k ≡ true = not-false (has c.self.inside.sets.marked c.args.k) (sym c.mark.ensures.fresh ∙ c.if-not-mark.true) in
    sym (ap not (ap (λ cells. is_marked (cell_at cells c.args.k)) (sym c.self.view_is) ∙ (marked_at c.self.inside.count c.self.inside.sets.used c.self.inside.sets.marked c.self.inside.sets.pending c.self.inside.tags.items c.self.invariant.kept c.args.k ∙ bit)))

pub mark-requires : goal.mark-requires
mark-requires c =
    let low = c.self.invariant.kept.within c.args.k (used_at c.self.inside.count c.self.inside.sets.used c.self.inside.sets.marked c.self.inside.sets.pending c.self.inside.tags.items c.self.invariant.kept c.args.k (ap (λ cells. is_free (cell_at cells c.args.k)) c.self.view_is ∙ c.requires)) in
    omega (arith, low, c.self.invariant.kept.room, c.self.invariant.kept.marked_words)

pub index_mut-requires : goal.index_mut-requires
index_mut-requires c =
    let low = c.self.invariant.kept.within c.args.k (used_at c.self.inside.count c.self.inside.sets.used c.self.inside.sets.marked c.self.inside.sets.pending c.self.inside.tags.items c.self.invariant.kept c.args.k (ap (λ cells. is_free (cell_at cells c.args.k)) c.self.view_is ∙ c.requires)) in
    let tags : c.self.inside.tags.len ≡ length c.self.inside.tags.items = c.self.inside.tags.ok.0 in
    omega (arith, low, tags, c.self.invariant.kept.tag_count)

pub invariant_of-self-2 : goal.invariant_of-self-2
invariant_of-self-2 c =
    let bit : has c.self.inside.sets.marked c.args.k ≡ false = not-true (has c.self.inside.sets.marked c.args.k) (sym c.mark.ensures.fresh ∙ c.if-not-mark.false) in
    let used = (used_at c.self.inside.count c.self.inside.sets.used c.self.inside.sets.marked c.self.inside.sets.pending c.self.inside.tags.items c.self.invariant.kept c.args.k (ap (λ cells. is_free (cell_at cells c.args.k)) c.self.view_is ∙ c.requires)) in
    rw (ap (λ s. s.used) c.mark.ensures.rest, ap (λ s. s.pending) c.mark.ensures.rest)
    (record {
      kept = kept_mark c.self.inside.count c.self.inside.sets.used c.self.inside.sets.marked c.self.inside.sets.pending c.self.inside.tags.items c.mark.new.self.marked (record { walk = c.args.walk; count = c.args.count }) c.args.k (c.self.invariant.kept.within c.args.k used) used bit
          c.mark.ensures.len c.mark.ensures.held c.mark.ensures.others c.self.invariant.kept;
      free_count = c.self.invariant.free_count ∙ same_free c.self.inside.count c.self.inside.sets.used c.self.inside.sets.marked c.self.inside.sets.pending c.mark.new.self.marked c.self.inside.sets.pending c.self.inside.tags.items (set c.self.inside.tags.items c.args.k (record { walk = c.args.walk; count = c.args.count }));
    })

pub returns-clause-fresh : goal.returns-clause-fresh
returns-clause-fresh c =
    let bit : has c.self.inside.sets.marked c.args.k ≡ false = not-true (has c.self.inside.sets.marked c.args.k) (sym c.mark.ensures.fresh ∙ c.if-not-mark.false) in
    sym (ap not (ap (λ cells. is_marked (cell_at cells c.args.k)) (sym c.self.view_is) ∙ (marked_at c.self.inside.count c.self.inside.sets.used c.self.inside.sets.marked c.self.inside.sets.pending c.self.inside.tags.items c.self.invariant.kept c.args.k ∙ bit)))

pub returns-clause-marked : goal.returns-clause-marked
returns-clause-marked c = λ _.
    let bit : has c.self.inside.sets.marked c.args.k ≡ false = not-true (has c.self.inside.sets.marked c.args.k) (sym c.mark.ensures.fresh ∙ c.if-not-mark.false) in
    let used = (used_at c.self.inside.count c.self.inside.sets.used c.self.inside.sets.marked c.self.inside.sets.pending c.self.inside.tags.items c.self.invariant.kept c.args.k (ap (λ cells. is_free (cell_at cells c.args.k)) c.self.view_is ∙ c.requires)) in
    rw (ap (λ s. s.used) c.mark.ensures.rest, ap (λ s. s.pending) c.mark.ensures.rest)
    (cells_mark c.self.inside.count c.self.inside.sets.used c.self.inside.sets.marked c.self.inside.sets.pending c.self.inside.tags.items c.mark.new.self.marked (record { walk = c.args.walk; count = c.args.count }) c.args.k (c.self.invariant.kept.within c.args.k used) used bit
    c.mark.ensures.len c.mark.ensures.held c.mark.ensures.others c.self.invariant.kept
    ∙ ap (λ cells. set cells c.args.k (Used (Some (record { walk = c.args.walk; count = c.args.count; pending = false })))) c.self.view_is)
