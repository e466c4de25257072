use Rattle.std.proofs.Common.{◌∙◌, subst, sym}
use Rattle.gt_space.specs.Range.{Range}
use Rattle.gt_collect.specs.Clearing.{IsZeroedAt}
use Rattle.gt_collect.specs.Finishing.{finished_heap}
use Rattle.gt_collect.proofs.Closed.{can_finish, collected}
use Rattle.gt_collect.proofs.collecting.collect_now.Goals as goal

pub finish-end-requires : goal.finish-end-requires
finish-end-requires c =
    let program = c.args.schema.now.program in
    let layouts = c.args.schema.now.layouts in
    let heap = c.requires.ready.0 in
    let is = c.mark_kept-rounds.ensures.heap heap c.requires.ready.1 in
    let is_kept = c.mark_kept-rounds.ensures.kept heap c.requires.ready.1 c.requires.ready.2 in
    record {
      schema = c.requires.schema;
      ready = (
        heap,
        is,
        c.requires.ready.2 ∙ sym c.mark_kept-rounds.ensures.pairs,
        can_finish program layouts c.mark_kept-rounds.new.objects heap is c.mark_kept-rounds.new.caches c.mark_kept-rounds.result is_kept,
      );
    }

pub returns-clause-collected : goal.returns-clause-collected
returns-clause-collected c = λ heap was held.
    let program = c.args.schema.now.program in
    let layouts = c.args.schema.now.layouts in
    let objects = c.mark_kept-rounds.new.objects in
    let caches = c.mark_kept-rounds.new.caches in
    let is = c.mark_kept-rounds.ensures.heap heap was in
    let is_kept = c.mark_kept-rounds.ensures.kept heap was held in
    let same = held ∙ sym c.mark_kept-rounds.ensures.pairs in
    let can = can_finish program layouts objects heap is caches c.mark_kept-rounds.result is_kept in
    let counts = c.finish-end.ensures.counts heap is same can in (
      finished_heap program objects caches heap,
      c.finish-end.ensures.heap heap is same can,
      sym c.finish-end.ensures.pairs,
      collected program layouts objects heap is caches c.mark_kept-rounds.result is_kept c.finish-end.result.kept c.finish-end.result.freed c.finish-end.result.dropped counts,
    )

pub returns-clause-bytes : goal.returns-clause-bytes
returns-clause-bytes c =
    subst (λ (r : Range). IsZeroedAt c.args.schema.now.tables.deletable r c.finish-end.new.objects.space) c.mark_kept-rounds.ensures.bytes c.finish-end.ensures.bytes
