use Rattle.gt_tables.proofs.DeletableWords.{word-more}
use Rattle.gt_tables.proofs.deletable.add_words.Goals as goal

-- one more address is added
pub loop-i-preserved : goal.loop-i-preserved
loop-i-preserved c = word-more c.args.address c.loop-i.i c.args.words.now.items c.loop-i.words.items c.push.new.self.items c.loop-i.invariant c.in_ok-push.ensures.items
