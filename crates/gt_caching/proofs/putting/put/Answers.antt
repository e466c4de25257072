use Rattle.gt_caching.proofs.Caches.{place-below}
use Rattle.gt_caching.proofs.Puts.{put-session}
use Rattle.gt_caches.proofs.Heaps.{heap-with-pairs}
use Rattle.gt_determined.proofs.Goods.{states-stay-good}
use Rattle.gt_caching.proofs.putting.put.Goals as goal

pub put-requires-clause-there : goal.put-requires-clause-there
put-requires-clause-there c =
    let w = c.requires.session in
    let may = c.in-Ok.ensures.pair w.0 w.1 w.2 in
    place-below c.args.s.now w.0 w.1 w.2 may.at

pub returns-in-Err-clause-next : goal.returns-in-Err-clause-next
returns-in-Err-clause-next c = λ told s st. (s, c.in-Err.ensures.refused told s st, st)

pub returns-in_ok-put-in-Ok-clause-next : goal.returns-in_ok-put-in-Ok-clause-next
returns-in_ok-put-in-Ok-clause-next c = λ told s st.
    put-session c.args.s.now told s st (states-stay-good c.args.s.now.schema.program c.args.s.now.schema.layouts (record { settled = st.holds.schema.settled; laid = st.holds.schema.laid })) heap-with-pairs
    c.args.cache.now c.args.key.now c.args.value.now c.in-Ok.pair (c.in-Ok.ensures.pair told s st) c.put.new.self c.in_ok-put-in-Ok.ensures.put
