use Rattle.std.proofs.Common.{◌∙◌, ◌++◌, ap, sym, arith}
use Rattle.gt_generated.specs.Generated.{node_text}
use Rattle.gt_generated.proofs.NodeLemmas.{nodes_more}
use Rattle.gt_generated.proofs.texts.script.Goals as goal

pub loop-i-preserved : goal.loop-i-preserved
loop-i-preserved c =
    record {
      nodes =
          c.in_ok-push_node.ensures.added ∙ ap (λ x. x ++ node_text c.loop-i.i) c.loop-i.invariant.nodes
          ∙ sym (nodes_more node_text c.loop-i.i);
      short =
          let before = c.loop-i.invariant.short in
          let added = c.in_ok-push_node.ensures.short in
          omega (arith, before, added);
    }
