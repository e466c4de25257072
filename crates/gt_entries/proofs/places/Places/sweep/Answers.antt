use Rattle.std.proofs.Common.{◌≡◌, length, map, count_by, ap, ◌∙◌, arith}
use Rattle.gt_bits.specs.Sets.{members}
use Rattle.gt_entries.specs.Cells.{is_lost, swept}
use Rattle.gt_entries.specs.Places.{cells_of}
use Rattle.gt_entries.proofs.CellLemmas.{count_lost, count_used}
use Rattle.gt_entries.proofs.Changes.{cells_sweep, free_sweep, kept_sweep}
use Rattle.gt_entries.proofs.places.Places.sweep.Goals as goal

pub overflow_sub-freed : goal.overflow_sub-freed
overflow_sub-freed c =
    let split = count_lost c.self.inside.count c.self.inside.sets.used c.self.inside.sets.marked c.self.inside.sets.pending c.self.inside.tags.items c.self.invariant.kept in
    let used : c.count.result ≡ length (members c.self.inside.sets.used) = c.count.ensures ∙ ap (λ words. length (members words)) c.used_places.ensures in
    let marked : c.count-2.result ≡ length (members c.self.inside.sets.marked) = c.count-2.ensures ∙ ap (λ words. length (members words)) c.marked_places.ensures in
    omega (arith, split, used, marked)

pub overflow_add-self : goal.overflow_add-self
overflow_add-self c =
    let split = count_lost c.self.inside.count c.self.inside.sets.used c.self.inside.sets.marked c.self.inside.sets.pending c.self.inside.tags.items c.self.invariant.kept in
    let used : c.count.result ≡ length (members c.self.inside.sets.used) = c.count.ensures ∙ ap (λ words. length (members words)) c.used_places.ensures in
    let marked : c.count-2.result ≡ length (members c.self.inside.sets.marked) = c.count-2.ensures ∙ ap (λ words. length (members words)) c.marked_places.ensures in
    omega (arith, split, used, marked, c.self.invariant.free_count, count_used c.self.inside.count c.self.inside.sets.used c.self.inside.sets.marked c.self.inside.sets.pending c.self.inside.tags.items c.self.invariant.kept, c.self.invariant.kept.room, c.self.invariant.kept.fits)

pub invariant_of-self : goal.invariant_of-self
invariant_of-self c =
    let split = count_lost c.self.inside.count c.self.inside.sets.used c.self.inside.sets.marked c.self.inside.sets.pending c.self.inside.tags.items c.self.invariant.kept in
    let used : c.count.result ≡ length (members c.self.inside.sets.used) = c.count.ensures ∙ ap (λ words. length (members words)) c.used_places.ensures in
    let marked : c.count-2.result ≡ length (members c.self.inside.sets.marked) = c.count-2.ensures ∙ ap (λ words. length (members words)) c.marked_places.ensures in
    rw c.sweep.ensures
    (record {
      kept = kept_sweep c.self.inside.count c.self.inside.sets.used c.self.inside.sets.marked c.self.inside.sets.pending c.self.inside.tags.items c.self.invariant.kept;
      free_count = omega (arith, split, used, marked, c.self.invariant.free_count, free_sweep c.self.inside.count c.self.inside.sets.used c.self.inside.sets.marked c.self.inside.sets.pending c.self.inside.tags.items c.self.invariant.kept);
    })

pub returns-clause-swept : goal.returns-clause-swept
returns-clause-swept c =
    rw c.sweep.ensures (cells_sweep c.self.inside.count c.self.inside.sets.used c.self.inside.sets.marked c.self.inside.sets.pending c.self.inside.tags.items c.self.invariant.kept ∙ ap (λ cells. map swept cells) c.self.view_is)

pub returns-clause-freed : goal.returns-clause-freed
returns-clause-freed c =
    let split = count_lost c.self.inside.count c.self.inside.sets.used c.self.inside.sets.marked c.self.inside.sets.pending c.self.inside.tags.items c.self.invariant.kept in
    let used : c.count.result ≡ length (members c.self.inside.sets.used) = c.count.ensures ∙ ap (λ words. length (members words)) c.used_places.ensures in
    let marked : c.count-2.result ≡ length (members c.self.inside.sets.marked) = c.count-2.ensures ∙ ap (λ words. length (members words)) c.marked_places.ensures in
    let seen : count_by is_lost (cells_of c.self.inside.count c.self.inside.sets.used c.self.inside.sets.marked c.self.inside.sets.pending c.self.inside.tags.items) ≡ count_by is_lost c.args.self.now = ap (λ cells. count_by is_lost cells) c.self.view_is in
    omega (arith, split, used, marked, seen)
