use Rattle.std.proofs.Common.{◌∙◌, ◌+◌, drop, sym, ap, arith}
use Rattle.std.proofs.lemmas.List.{at_drop_more, at_drop_all}
use Rattle.gt_shapes.specs.Graphs.{with_edges}
use Rattle.gt_shapes.proofs.tails.add_edges.Goals as goal

pub loop-from-preserved : goal.loop-from-preserved
unfolding with_edges
loop-from-preserved c =
    ap (with_edges (drop (c.loop-from.from-index + 1) c.args.froms.now) c.args.to) c.in_ok-add_edge.ensures.added
    ∙ sym (at_drop_more (λ froms. with_edges froms c.args.to c.loop-from.graph) c.args.froms.now c.loop-from.from-index 0 (omega arith))
    ∙ c.loop-from.invariant

pub returns : goal.returns
unfolding with_edges
returns c =
    record {
      added =
          sym (at_drop_all (λ froms. with_edges froms c.args.to c.loop-from.graph) c.args.froms.now c.loop-from.from-index (omega arith))
          ∙ c.loop-from.invariant;
    }
