use Rattle.gt_headers.proofs.ReadingLemmas.{read_more, stops_at}
use Rattle.gt_headers.proofs.reading.read_all.Goals as goal

pub returns-in-Err-clause-fault : goal.returns-in-Err-clause-fault
returns-in-Err-clause-fault c =
    stops_at c.args.texts.now c.loop-place.files.items c.loop-place.place c.index-texts-place.result c.as_slice.result.now c.loop-place-test.true
    c.index-texts-place.is c.as_slice.ensures.bytes c.loop-place.invariant c.in-Err.stop c.in-Err.ensures.fault

pub loop-place-preserved : goal.loop-place-preserved
loop-place-preserved c =
    read_more c.args.texts.now c.loop-place.files.items c.push.new.self.items c.loop-place.place c.index-texts-place.result c.as_slice.result.now c.in-Ok.items
    c.loop-place-test.true c.index-texts-place.is c.as_slice.ensures.bytes c.loop-place.invariant c.in-Ok.ensures.items c.in_ok-push-in-Ok.ensures.items
