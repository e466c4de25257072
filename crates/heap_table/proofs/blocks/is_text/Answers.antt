use Rattle.gt_value.specs.Values.{tree_of}
use Rattle.heap_table.proofs.Named.{uneven_text, ends_decide}
use Rattle.heap_table.proofs.blocks.is_text.Goals as goal

pub returns-then-parts-count : goal.returns-then-parts-count
returns-then-parts-count c = uneven_text c.args.count (tree_of c.args.value.now) c.in-Some.parts.now c.in-Some.ensures c.if-parts-count.true

pub returns-then-are_bytes : goal.returns-then-are_bytes
returns-then-are_bytes c =
    ends_decide c.args.count (tree_of c.args.value.now) c.in-Some.parts.now c.in-Some.ensures c.ends_in_zero.result c.if-parts-count.false (c.are_bytes.ensures.0 c.if-are_bytes.true) c.ends_in_zero.ensures
