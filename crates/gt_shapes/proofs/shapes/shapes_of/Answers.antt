use Rattle.std.proofs.Common.{◌≡◌, ◌∙◌, ℕ, ◌<◌, Bool, true, List, length, map, Some, ap, subst}
use Rattle.std.specs.Prelude.{◌⊎◌, slice_get}
use Rattle.std.proofs.lemmas.List.{length-map}
use Rattle.gt_types.specs.declared.limits.TheConstants.{MAX_DEPTH}
use Rattle.gt_shapes.specs.Cycles.{IsPreceded}
use Rattle.gt_shapes.specs.Graphs.{Reached, edges_at, nested_flags}
use Rattle.gt_drafts.specs.Shapes.{held_in}
use Rattle.gt_shapes.proofs.CycleFlags.{are_shapes_for}
use Rattle.gt_shapes.proofs.Depths.{cyclic_deep}
use Rattle.gt_shapes.proofs.TailLemmas.{tail_flags}
use Rattle.gt_shapes.proofs.shapes.shapes_of.Goals as goal

pub cyclic-requires : goal.cyclic-requires
cyclic-requires c =
    let ss = c.args.structures.now in
    let of_deep : c.deref.result.now ≡ map held_in ss = c.deref.ensures.value ∙ c.in_ok-graph.ensures.graph in
    let of_cyclic : c.deref-2.result.now ≡ map held_in ss = c.deref-2.ensures.value ∙ c.in_ok-graph.ensures.graph in
    let deep : c.deref-3.result.now ≡ nested_flags (map held_in ss) MAX_DEPTH =
    c.deref-3.ensures.value ∙ c.in_ok-deep.ensures.flags ∙ ap (λ (graph : List (List ℕ)). nested_flags graph MAX_DEPTH) of_deep in
    record {
      deep = λ i reached.
          ap (λ (flags : List Bool). slice_get flags i) deep ∙ cyclic_deep ss i (subst (λ (graph : List (List ℕ)). Reached graph (edges_at graph i) i) of_cyclic reached);
      same = ap (λ (graph : List (List ℕ)). length graph) of_cyclic ∙ length-map ss held_in;
    }

pub returns : goal.returns
returns c =
    let ss = c.args.structures.now in
    let told = c.in_ok-cyclic.cyclic.items in
    let of_deep : c.deref.result.now ≡ map held_in ss = c.deref.ensures.value ∙ c.in_ok-graph.ensures.graph in
    let of_cyclic : c.deref-2.result.now ≡ map held_in ss = c.deref-2.ensures.value ∙ c.in_ok-graph.ensures.graph in
    record {
      shapes =
          are_shapes_for ss told c.in_ok-deep.deep.items c.in_ok-tails.tails.items
          (c.in_ok-deep.ensures.flags ∙ ap (λ (graph : List (List ℕ)). nested_flags graph MAX_DEPTH) of_deep)
          (c.in_ok-cyclic.ensures.count ∙ ap (λ (graph : List (List ℕ)). length graph) of_cyclic)
          (subst (λ (graph : List (List ℕ)). (i : ℕ) → i < length graph → slice_get told i ≡ Some true → Reached graph (edges_at graph i) i) of_cyclic c.in_ok-cyclic.ensures.only)
          (subst (λ (flags : List Bool). (i : ℕ) → i < length (map held_in ss) → Reached (map held_in ss) (edges_at (map held_in ss) i) i → (slice_get told i ≡ Some true) ⊎ IsPreceded ss flags i) c.deref-3.ensures.value
          (subst (λ (graph : List (List ℕ)). (i : ℕ) → i < length graph → Reached graph (edges_at graph i) i → (slice_get told i ≡ Some true) ⊎ IsPreceded ss c.deref-3.result.now i) of_cyclic c.in_ok-cyclic.ensures.known))
          (tail_flags ss c.in_ok-tails.tails.items c.in_ok-tails.ensures.tails);
    }
