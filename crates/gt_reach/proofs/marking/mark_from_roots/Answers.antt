use Rattle.gt_mark.specs.Reached.{root_targets}
use Rattle.gt_tracing.specs.Walked.{walks_in}
use Rattle.gt_tracing.proofs.Traced.{heap_traced}
use Rattle.gt_tracing.proofs.Starting.{can_mark}
use Rattle.gt_reach.proofs.Tracing.{roots_named, roots_traced}
use Rattle.gt_reach.proofs.marking.mark_from_roots.Goals as goal

pub mark_roots-requires : goal.mark_roots-requires
mark_roots-requires c =
    let s = c.requires.schema in
    let program = c.args.schema.now.program in
    let tables = c.args.schema.now.tables in
    let r = c.requires.ready in
    let now = c.clear_marks.new.self in
    let traces = heap_traced program c.args.schema.now.layouts tables now r.0 s.settled s.laid s.within s.tables c.sound.ensures.space (c.clear_marks.ensures.heap program c.args.schema.now.layouts r.0 r.1) in
    let named = roots_named program tables now.space now.pages.slots r.0.graph traces in
    record {
      ready = (
        walks_in program r.0.graph.objects,
        traces.root_names,
        can_mark program tables now.space now.pages.slots r.0.graph traces (root_targets tables now.space) c.clear_marks.ensures.none named,
      );
    }

pub returns-clause-traced : goal.returns-clause-traced
returns-clause-traced c = λ heap is.
    let s = c.requires.schema in
    let program = c.args.schema.now.program in
    let tables = c.args.schema.now.tables in
    let now = c.clear_marks.new.self in
    let traces = heap_traced program c.args.schema.now.layouts tables now heap s.settled s.laid s.within s.tables c.sound.ensures.space (c.clear_marks.ensures.heap program c.args.schema.now.layouts heap is) in
    let named = roots_named program tables now.space now.pages.slots heap.graph traces in
    let can = can_mark program tables now.space now.pages.slots heap.graph traces (root_targets tables now.space) c.clear_marks.ensures.none named in
    roots_traced program tables heap now.pages c.mark_roots.new.self now.space c.mark_roots.result c.mark_roots.ensures.bytes c.clear_marks.ensures.none traces
    (c.mark_roots.ensures.marked (walks_in program heap.graph.objects) traces.root_names can) (c.mark_roots.ensures.rounds (walks_in program heap.graph.objects) traces.root_names can)

pub returns-clause-heap : goal.returns-clause-heap
returns-clause-heap c = λ heap is.
    c.mark_roots.ensures.heap c.args.schema.now.program c.args.schema.now.layouts heap (c.clear_marks.ensures.heap c.args.schema.now.program c.args.schema.now.layouts heap is)
