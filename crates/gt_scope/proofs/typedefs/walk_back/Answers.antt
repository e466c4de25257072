use Rattle.gt_scope.proofs.ChainLemmas.{one_back, within_back, all_back_means}
use Rattle.gt_scope.proofs.typedefs.walk_back.Goals as goal

pub returns-in-None-clause-means : goal.returns-in-None-clause-means
returns-in-None-clause-means c = all_back_means _ _ c.back.way.items _ _ c.back.invariant c.in-None.ensures.last

pub note-requires : goal.note-requires
note-requires c =
    record { within = within_back _ _ _ _ c.in-Some.place c.in-Some-item_at.link.now _ c.back.invariant c.in-Some-item_at.ensures.item }

pub back-preserved : goal.back-preserved
back-preserved c =
    one_back _ _ c.back.way.items c.last_of.new.way.items c.back.memo.items c.note.new.memo.items c.in-Some.place c.in-Some-item_at.link.now c.back.means
    c.meant_after-means.result c.back.invariant c.in-Some.ensures.last c.in-Some-item_at.ensures.item
    c.meant_after-means.ensures.means c.note.ensures.noted
