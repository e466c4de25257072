use Rattle.std.proofs.lemmas.Result.{on_ok_weaker}
use Rattle.gt_show.proofs.Elements.{node_added, nodes_added}
use Rattle.gt_show.proofs.blocks.push_nodes.Goals as goal

pub returns-then-elements-eq1 : goal.returns-then-elements-eq1
returns-then-elements-eq1 g c = record {
  added =
      on_ok_weaker c.push_value.result
      (node_added _ _ c.args.ty.now c.args.elements.now c.index-elements-0.result c.args.text.now c.push_value.new.text c.if-elements-eq1.true c.index-elements-0.is)
      c.push_value.ensures.added;
}

pub returns-else-elements-eq1 : goal.returns-else-elements-eq1
returns-else-elements-eq1 g c = record {
  added = on_ok_weaker c.push_row.result (nodes_added _ _ c.args.ty.now c.args.elements.now c.args.text.now c.push_row.new.text c.if-elements-eq1.false) c.push_row.ensures.added;
}
