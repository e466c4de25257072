use Rattle.std.proofs.Common.{◌∙◌, [], ◌∷◌, is_some, Some, sym, ap, subst}
use Rattle.std.proofs.lemmas.Bool.{false≢true}
use Rattle.gt_objects.specs.Knowing.{IsKnownAt}
use Rattle.gt_tracing.specs.Walked.{walks_in}
use Rattle.gt_reach.proofs.Tracing.{known_nodes, known_walked, single_object, value_can, value_traced}
use Rattle.gt_reach.proofs.marking.mark_from_value.Goals as goal

pub unreachable-requires : goal.unreachable-requires
unreachable-requires c =
    let r = c.requires.ready in
    let o = single_object r.0.graph.objects c.args.addr r.2 r.5 in
    let none = subst (IsKnownAt r.0.graph.objects c.args.addr) c.in_default.is (c.known.ensures.known c.args.schema.now.program c.args.schema.now.layouts r.0 r.3) in
    false≢true (ap is_some (sym none ∙ o.1))

pub unreachable-requires-in_default-kind : goal.unreachable-requires-in_default-kind
unreachable-requires-in_default-kind c =
    let r = c.requires.ready in
    let at = subst (IsKnownAt r.0.graph.objects c.args.addr) c.in-Some.is (c.known.ensures.known c.args.schema.now.program c.args.schema.now.layouts r.0 r.3) in
    known_nodes r.0.graph.objects c.args.addr c.in-Some.known r.2 at r.5 c.in_default-kind.not-Nodes

pub mark_from-more-requires : goal.mark_from-more-requires
mark_from-more-requires c =
    let program = c.args.schema.now.program in
    let tables = c.args.schema.now.tables in
    let r = c.requires.ready in
    let at = subst (IsKnownAt r.0.graph.objects c.args.addr) c.in-Some.is (c.known.ensures.known program c.args.schema.now.layouts r.0 r.3) in
    record {
      ready = (
        walks_in program r.0.graph.objects,
        known_walked program r.0.graph.objects c.args.addr c.in-Some.known c.in-Nodes.node at c.in-Nodes.is,
        value_can program tables r.0 r.1 c.args.objects.now c.args.rounds r.4 c.args.addr r.2 r.5,
      );
    }

pub overflow_sub-more : goal.overflow_sub-more
overflow_sub-more c =
    let program = c.args.schema.now.program in
    let tables = c.args.schema.now.tables in
    let r = c.requires.ready in
    let at = subst (IsKnownAt r.0.graph.objects c.args.addr) c.in-Some.is (c.known.ensures.known program c.args.schema.now.layouts r.0 r.3) in
    let turns = c.mark_from-more.ensures.rounds (walks_in program r.0.graph.objects) (known_walked program r.0.graph.objects c.args.addr c.in-Some.known c.in-Nodes.node at c.in-Nodes.is)
    (value_can program tables r.0 r.1 c.args.objects.now c.args.rounds r.4 c.args.addr r.2 r.5) in
    turns.at_least

pub returns-clause-traced : goal.returns-clause-traced
returns-clause-traced c = λ heap values node is t single.
    let program = c.args.schema.now.program in
    let tables = c.args.schema.now.tables in
    let at = subst (IsKnownAt heap.graph.objects c.args.addr) c.in-Some.is (c.known.ensures.known program c.args.schema.now.layouts heap is) in
    let walked = known_walked program heap.graph.objects c.args.addr c.in-Some.known c.in-Nodes.node at c.in-Nodes.is in
    let can = value_can program tables heap values c.args.objects.now c.args.rounds t c.args.addr node single in
    value_traced program tables heap values c.args.objects.now c.args.rounds t c.args.addr node single c.mark_from-more.new.self c.mark_from-more.result c.saturating_add.result c.mark_from-more.ensures.bytes
    (c.mark_from-more.ensures.marked (walks_in program heap.graph.objects) walked can) (c.mark_from-more.ensures.rounds (walks_in program heap.graph.objects) walked can) c.saturating_add.ensures

pub returns-clause-heap : goal.returns-clause-heap
returns-clause-heap c = λ heap is. c.mark_from-more.ensures.heap c.args.schema.now.program c.args.schema.now.layouts heap is
