use Rattle.std.proofs.Common.{◌≡◌, ◌∙◌, ℕ, List, Bool, ap, subst, sym, length, ◌+◌}
use Rattle.std.specs.Prelude.{◌⊎◌, slice_get, Some, true}
use Rattle.std.proofs.lemmas.List.{length_push}
use Rattle.gt_shapes.specs.Cycles.{IsPreceded}
use Rattle.gt_shapes.specs.Graphs.{Reached, edges_at}
use Rattle.gt_shapes.proofs.CycleLemmas.{told_more}
use Rattle.gt_shapes.proofs.containment.cyclic.Goals as goal

pub loop-place-preserved : goal.loop-place-preserved
loop-place-preserved c =
    let graph = c.args.graph.now in
    let inv = c.loop-place.invariant in
    let told = told_more (λ i. Reached graph (edges_at graph i) i) (λ i. IsPreceded c.args.structures.now c.args.deep.now i) c.loop-place.flags.items c.loop-place.place
    c.in_ok-is_first_cyclic.field-0 inv.count (inv.only, inv.known) c.in_ok-is_first_cyclic.ensures.only c.in_ok-is_first_cyclic.ensures.known in
    record {
      count = ap (λ (flags : List Bool). length flags) c.in_ok-push.ensures.items ∙ length_push c.loop-place.flags.items c.in_ok-is_first_cyclic.field-0 ∙ ap (λ (n : ℕ). n + 1) inv.count;
      only = λ i l is. told.0 i l (subst (λ (flags : List Bool). slice_get flags i ≡ Some true) c.in_ok-push.ensures.items is);
      known = λ i l is. subst (λ (flags : List Bool). (slice_get flags i ≡ Some true) ⊎ IsPreceded c.args.structures.now c.args.deep.now i) (sym {A = List Bool} c.in_ok-push.ensures.items) (told.1 i l is);
    }
