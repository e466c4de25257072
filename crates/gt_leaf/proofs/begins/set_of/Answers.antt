use Rattle.std.proofs.Common.{arith}
use Rattle.std.proofs.lemmas.Option.{slice_get-get_or}
use Rattle.gt_leaf.proofs.BeginSets.{set-none, set-next, set-all}
use Rattle.gt_leaf.proofs.begins.set_of.Goals as goal

pub loop-id-init : goal.loop-id-init
loop-id-init c = set-none c.in_ok-set.set c.args.ids.now c.in_ok-set.ensures.empty

pub loop-id-preserved : goal.loop-id-preserved
loop-id-preserved c = set-next c.loop-id.set c.insert.new.self c.args.ids.now c.loop-id.id-index _ (slice_get-get_or c.args.ids.now c.loop-id.id-index 0 c.loop-id-test.true) c.loop-id.invariant c.in_ok-insert.ensures.added

pub returns : goal.returns
returns c = record { these = set-all c.loop-id.set c.args.ids.now c.loop-id.id-index (omega (arith, c.loop-id-test.false)) c.loop-id.invariant }
