use Rattle.std.proofs.Common.{◌≡◌, ℕ, length, set, count_by, Option, Some, None, IfNone, sym, ap, subst, ◌∙◌, arith}
use Rattle.gt_bits.specs.Sets.{IsNextGap}
use Rattle.gt_entries.specs.Cells.{Used, cell_at, is_free}
use Rattle.gt_entries.specs.Places.{cells_of}
use Rattle.gt_entries.proofs.CellLemmas.{len_cells, none_free, some_free}
use Rattle.gt_entries.proofs.Changes.{cells_take, free_at, free_take, kept_take}
use Rattle.gt_entries.proofs.places.Places.take_free.Goals as goal

if_none : (o : Option ℕ) (P : Type 0) → P → IfNone o P
if_none None P p = p
if_none (Some x) P p = tt

pub returns-in_err-k-clause-full : goal.returns-in_err-k-clause-full
returns-in_err-k-clause-full c =
    let gap = subst (λ r. IsNextGap c.self.inside.sets.used 0 c.self.inside.count r) c.in_err-k.was (subst (λ words. IsNextGap words 0 c.self.inside.count c.next_gap.result) c.used_places.ensures c.next_gap.ensures) in
    if_none c.from_residual.result (count_by is_free c.args.self.now ≡ 0)
    (ap (λ cells. count_by is_free cells) (sym c.self.view_is)
    ∙ none_free c.self.inside.count c.self.inside.sets.used c.self.inside.sets.marked c.self.inside.sets.pending c.self.inside.tags.items (λ k low. gap.none k (omega arith) low))

pub overflow_sub-self : goal.overflow_sub-self
overflow_sub-self c =
    let gap = subst (λ r. IsNextGap c.self.inside.sets.used 0 c.self.inside.count r) c.in_ok-k.was (subst (λ words. IsNextGap words 0 c.self.inside.count c.next_gap.result) c.used_places.ensures c.next_gap.ensures) in
    omega (arith, c.self.invariant.free_count, some_free c.self.inside.count c.self.inside.sets.used c.self.inside.sets.marked c.self.inside.sets.pending c.self.inside.tags.items c.in_ok-k.k gap.below gap.missing)

pub invariant_of-self : goal.invariant_of-self
invariant_of-self c =
    let gap = subst (λ r. IsNextGap c.self.inside.sets.used 0 c.self.inside.count r) c.in_ok-k.was (subst (λ words. IsNextGap words 0 c.self.inside.count c.next_gap.result) c.used_places.ensures c.next_gap.ensures) in
    rw (ap (λ s. s.marked) c.take.ensures.rest, ap (λ s. s.pending) c.take.ensures.rest)
    (record {
      kept = kept_take c.self.inside.count c.self.inside.sets.used c.self.inside.sets.marked c.self.inside.sets.pending c.self.inside.tags.items c.take.new.self.used c.in_ok-k.k gap.below gap.missing
          c.take.ensures.len c.take.ensures.held
          c.take.ensures.others c.self.invariant.kept;
      free_count = omega (arith, c.self.invariant.free_count, free_take c.self.inside.count c.self.inside.sets.used c.self.inside.sets.marked c.self.inside.sets.pending c.self.inside.tags.items c.take.new.self.used c.in_ok-k.k gap.below gap.missing c.take.ensures.len c.take.ensures.held c.take.ensures.others c.self.invariant.kept);
    })

pub returns-clause-free : goal.returns-clause-free
returns-clause-free c =
    let gap = subst (λ r. IsNextGap c.self.inside.sets.used 0 c.self.inside.count r) c.in_ok-k.was (subst (λ words. IsNextGap words 0 c.self.inside.count c.next_gap.result) c.used_places.ensures c.next_gap.ensures) in
    let len : length (cells_of c.self.inside.count c.self.inside.sets.used c.self.inside.sets.marked c.self.inside.sets.pending c.self.inside.tags.items) ≡ length c.args.self.now = ap (λ cells. length cells) c.self.view_is in (
      omega (arith, len, len_cells c.self.inside.count c.self.inside.sets.used c.self.inside.sets.marked c.self.inside.sets.pending c.self.inside.tags.items, gap.below),
      ap (λ cells. cell_at cells c.in_ok-k.k) (sym c.self.view_is) ∙ free_at c.self.inside.count c.self.inside.sets.used c.self.inside.sets.marked c.self.inside.sets.pending c.self.inside.tags.items c.self.invariant.kept c.in_ok-k.k gap.missing,
    )

pub returns-clause-taken : goal.returns-clause-taken
returns-clause-taken c =
    let gap = subst (λ r. IsNextGap c.self.inside.sets.used 0 c.self.inside.count r) c.in_ok-k.was (subst (λ words. IsNextGap words 0 c.self.inside.count c.next_gap.result) c.used_places.ensures c.next_gap.ensures) in
    rw (ap (λ s. s.marked) c.take.ensures.rest, ap (λ s. s.pending) c.take.ensures.rest)
    (cells_take c.self.inside.count c.self.inside.sets.used c.self.inside.sets.marked c.self.inside.sets.pending c.self.inside.tags.items c.take.new.self.used c.in_ok-k.k gap.below gap.missing
    c.take.ensures.len c.take.ensures.held
    c.take.ensures.others c.self.invariant.kept
    ∙ ap (λ cells. set cells c.in_ok-k.k (Used None)) c.self.view_is)
