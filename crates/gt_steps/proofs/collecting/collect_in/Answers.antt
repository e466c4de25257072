use Rattle.std.proofs.Common.{refl}
use Rattle.gt_objects.proofs.Finding.{has_places}
use Rattle.gt_collect.proofs.Answered.{collected_enough, skipped_low}
use Rattle.gt_steps.proofs.Forced.{goes_in}
use Rattle.gt_steps.proofs.Stepped.{skips_in}
use Rattle.gt_steps.proofs.collecting.collect_in.Goals as goal

pub collect-requires : goal.collect-requires
collect-requires c =
    let is = c.requires.session in
    record { schema = is.2.holds.schema; ready = (is.1.heap, is.2.holds.heap, is.2.holds.pairs); mode = c.requires.mode }

pub keep-requires : goal.keep-requires
keep-requires c =
    let is = c.requires.session in
    let next = c.in-Collected.ensures.collected is.1.heap is.2.holds.heap is.2.holds.pairs in
    record { places = has_places c.args.s.now.schema.program c.args.s.now.schema.layouts c.collect.new.objects next.0 next.1 }

pub returns-in-Skipped-clause-next : goal.returns-in-Skipped-clause-next
returns-in-Skipped-clause-next c = λ told s stands.
    let program = c.args.s.now.schema.program in
    let next = c.in-Skipped.ensures.collected s.heap stands.holds.heap stands.holds.pairs in
    let same = c.in-Skipped.ensures.skipped refl in
    skips_in program c.args.mode c.args.s.now c.collect.new.objects c.collect.new.caches same.0 same.1 told s stands (skipped_low program s.heap c.args.mode next.0 next.3)

pub returns-in-Collected-clause-next : goal.returns-in-Collected-clause-next
returns-in-Collected-clause-next c = λ told s stands.
    let program = c.args.s.now.schema.program in
    let done = c.in-Collected.done in
    let next = c.in-Collected.ensures.collected s.heap stands.holds.heap stands.holds.pairs in
    let both = collected_enough program s.heap c.args.mode next.0 done next.3 in
    goes_in c.args.s.now c.collect.new.objects c.collect.new.caches c.keep.new.self c.allocated-s.result done.kept done.freed done.dropped done.rounds told s stands next.0 next.1 next.2 both.1
    c.keep.ensures.kept c.keep.ensures.few (c.allocated-s.ensures.bytes program c.args.s.now.schema.layouts next.0 next.1) c.args.mode both.0
