use Rattle.std.proofs.Common.{[]}
use Rattle.gt_resolve.specs.Drafts.{word_of}
use Rattle.gt_resolve.proofs.DraftLemmas.{item_more}
use Rattle.gt_resolve.proofs.drafting.words.Goals as goal

pub loop-name-preserved : goal.loop-name-preserved
loop-name-preserved c =
    item_more word_of c.args.names.now [] c.loop-name.made.items c.in_ok-made.made.items c.in_ok-word.field-0 c.loop-name.name-index c.name-item.result
    c.loop-name-test.true c.name-item.is c.loop-name.invariant c.in_ok-word.ensures.word c.in_ok-made.ensures.added
