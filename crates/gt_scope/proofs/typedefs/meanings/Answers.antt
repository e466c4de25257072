use Rattle.gt_scope.proofs.ChainLemmas.{meanings_push}
use Rattle.gt_scope.proofs.typedefs.meanings.Goals as goal

pub loop-place-preserved : goal.loop-place-preserved
loop-place-preserved c =
    record {
      memo = c.in_ok-meaning.ensures.memo;
      meant =
          meanings_push c.args.links.now c.loop-place.meant.items c.push.new.self.items c.in_ok-meaning.field-0 c.loop-place.place c.loop-place.invariant.meant
          c.in_ok-meaning.ensures.means c.in_ok-push.ensures.items;
    }
