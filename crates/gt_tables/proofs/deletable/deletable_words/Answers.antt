use Rattle.std.proofs.Common.{arith}
use Rattle.gt_tables.proofs.DeletableWords.{next-words}
use Rattle.gt_tables.proofs.deletable.deletable_words.Goals as goal

-- the words of one more root are added
pub loop-place-preserved : goal.loop-place-preserved
loop-place-preserved c =
    next-words c.args.program.now c.args.layouts.now c.requires.settled c.requires.laid c.requires.within c.loop-place.place c.args.start c.loop-place.words.items c.add_deletable.new.words.items (omega arith)
    c.loop-place.invariant c.in_ok-add_deletable.ensures.added
