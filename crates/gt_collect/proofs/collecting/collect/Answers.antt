use Rattle.std.proofs.Common.{◌≡◌, ◌<◌, ◌≤◌, arith}
use Rattle.gt_graph.specs.Places.{ledger_of}
use Rattle.gt_next.specs.Texts.{allocated_of}
use Rattle.gt_collect.specs.Answering.{Answers}
use Rattle.gt_collect.specs.Modes.{threshold_in}
use Rattle.gt_collect.proofs.collecting.collect.Goals as goal

pub returns-then-allocated-threshold-clause-collected : goal.returns-then-allocated-threshold-clause-collected
returns-then-allocated-threshold-clause-collected c = λ heap is held.
    let bytes : c.allocated.result ≡ allocated_of (ledger_of heap.places) = c.allocated.ensures.bytes c.args.schema.now.program c.args.schema.now.layouts heap is in
    let least : c.threshold.result ≡ threshold_in c.args.mode = c.threshold.ensures in
    let few = c.if-allocated-threshold.true in
    let low : allocated_of (ledger_of heap.places) < threshold_in c.args.mode = omega (arith, bytes, least, few) in
    (heap, is, held, Answers.skips low)

pub returns-clause-collected : goal.returns-clause-collected
returns-clause-collected c = λ heap is held.
    let bytes : c.allocated.result ≡ allocated_of (ledger_of heap.places) = c.allocated.ensures.bytes c.args.schema.now.program c.args.schema.now.layouts heap is in
    let least : c.threshold.result ≡ threshold_in c.args.mode = c.threshold.ensures in
    let many = c.if-allocated-threshold.false in
    let enough : threshold_in c.args.mode ≤ allocated_of (ledger_of heap.places) = omega (arith, bytes, least, many) in
    let next = c.collect_now.ensures.collected heap is held in
    (next.0, next.1, next.2, Answers.collects enough next.3)
