use Rattle.std.proofs.Common.{◌≡◌, ◌∙◌, ◌+◌, ℕ, List, length, drop, ap, sym, arith}
use Rattle.std.proofs.lemmas.List.{with_items_is}
use Rattle.gt_shapes.specs.Graphs.{with_edges, with_turned}
use Rattle.gt_shapes.proofs.TailLemmas.{turned_more, turned_end, length_with_edges}
use Rattle.gt_shapes.proofs.tails.reverse_edges.Goals as goal

pub loop-place-preserved : goal.loop-place-preserved
loop-place-preserved c =
    let v = c.loop-place.turned in
    let i = c.loop-place.place in
    let made : c.add_edges.new.graph ≡ with_edges c.index-graph-place.result i v.items =
    c.in_ok-add_edges.ensures.added ∙ ap (λ (es : List ℕ). with_edges es i c.deref_mut.result.now) c.as_slice.ensures.items
    ∙ ap (with_edges c.index-graph-place.result i) c.deref_mut.ensures.value in
    let size : length c.add_edges.new.graph ≡ v.len =
    ap (λ (g : List (List ℕ)). length g) made ∙ length_with_edges c.index-graph-place.result i v.items ∙ sym v.ok.0 in
    ap (λ (g : List (List ℕ)). with_turned (i + 1) (drop (i + 1) c.args.graph.now) g) (with_items_is v c.add_edges.new.graph size)
    ∙ turned_more c.args.graph.now v.items c.add_edges.new.graph i c.index-graph-place.result (omega arith) c.index-graph-place.is made
    ∙ c.loop-place.invariant

pub returns : goal.returns
returns c = record { turned = turned_end c.args.graph.now c.loop-place.turned.items c.loop-place.place (omega arith) ∙ c.loop-place.invariant }
