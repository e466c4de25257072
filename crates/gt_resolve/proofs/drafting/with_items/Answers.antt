use Rattle.gt_resolve.proofs.DraftLemmas.{item_more}
use Rattle.gt_resolve.proofs.drafting.with_items.Goals as goal

pub loop-item-preserved : goal.loop-item-preserved
loop-item-preserved g c =
    item_more (g.D.OfItem.reading c.args.scope.now.declarations.items c.args.scope.now.types.items c.args.file) c.args.items.now c.args.before.items
    c.loop-item.made.items c.in_ok-made.made.items c.in_ok-of_item.field-0 c.loop-item.item-index c.item-item.result c.loop-item-test.true c.item-item.is
    c.loop-item.invariant c.in_ok-of_item.ensures.read c.in_ok-made.ensures.added
