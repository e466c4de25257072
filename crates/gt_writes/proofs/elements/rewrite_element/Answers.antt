use Rattle.std.proofs.Common.{◌∙◌, ap}
use Rattle.gt_value.specs.declared.values.ValueFail.TheVariants.{Shape}
use Rattle.gt_value.specs.Values.{tree_of}
use Rattle.gt_graph.specs.Objects.{blocks_of}
use Rattle.gt_objects.specs.InBytes.{blocks_in}
use Rattle.gt_writes.proofs.Anew.{fits_beside, fits_by, assigned_by, misfit_by, some_fits, reads_same, same_fail}
use Rattle.gt_writes.proofs.elements.rewrite_element.Goals as goal

pub assign-requires-clause-fits : goal.assign-requires-clause-fits
assign-requires-clause-fits c =
    let program = c.args.schema.now.program in
    let ready = c.requires.ready in
    let heap = ready.0 in
    let s = c.requires.stands heap ready.1 in
    let same = ap blocks_in c.of-names.ensures.objects ∙ c.of-names.ensures.blocks program c.args.schema.now.layouts heap c.requires.schema.settled c.requires.schema.laid ready.1 in
    let read = c.in_ok-old.ensures.value s.0 (reads_same c.space.ensures s.1) in (
      heap.graph.statics,
      fits_by program (blocks_in c.of-names.result.objects.now) (blocks_of heap.graph.objects) same heap.graph.statics c.args.element.capacity c.args.ty.now (tree_of c.in_ok-old.old) s.0 read (fits_beside s.1),
    )

pub returns-in-Err-clause-shape : goal.returns-in-Err-clause-shape
returns-in-Err-clause-shape c = λ e heap value is s new assigns.
    let program = c.args.schema.now.program in
    let same = ap blocks_in c.of-names.ensures.objects ∙ c.of-names.ensures.blocks program c.args.schema.now.layouts heap c.requires.schema.settled c.requires.schema.laid is in
    let read = c.in_ok-old.ensures.value value (reads_same c.space.ensures s) in
    misfit_by program (blocks_in c.of-names.result.objects.now) (blocks_of heap.graph.objects) same heap.graph.statics c.args.element.capacity c.args.ty.now (tree_of c.in_ok-old.old) value read c.args.path.now (tree_of c.args.leaf) new (c.in-Err.ensures.shape (same_fail c.in-Err.fail Shape e)) assigns

pub store-requires-clause-fits : goal.store-requires-clause-fits
store-requires-clause-fits c =
    let program = c.args.schema.now.program in
    let ready = c.requires.ready in
    let heap = ready.0 in
    let s = c.requires.stands heap ready.1 in
    let same = ap blocks_in c.of-names.ensures.objects ∙ c.of-names.ensures.blocks program c.args.schema.now.layouts heap c.requires.schema.settled c.requires.schema.laid ready.1 in
    let read = c.in_ok-old.ensures.value s.0 (reads_same c.space.ensures s.1) in
    some_fits s.1.addresses
    (assigned_by program (blocks_in c.of-names.result.objects.now) (blocks_of heap.graph.objects) same heap.graph.statics c.args.element.capacity c.args.ty.now (tree_of c.in_ok-old.old) s.0 read c.args.path.now (tree_of c.args.leaf) (tree_of c.in-Ok.new) c.in-Ok.ensures.assigned (fits_beside s.1))

pub returns-clause-written : goal.returns-clause-written
returns-clause-written c = λ heap value is s.
    let program = c.args.schema.now.program in
    let same = ap blocks_in c.of-names.ensures.objects ∙ c.of-names.ensures.blocks program c.args.schema.now.layouts heap c.requires.schema.settled c.requires.schema.laid is in
    let read = c.in_ok-old.ensures.value value (reads_same c.space.ensures s) in
    record {
      next = tree_of c.in-Ok.new;
      assigns = assigned_by program (blocks_in c.of-names.result.objects.now) (blocks_of heap.graph.objects) same heap.graph.statics c.args.element.capacity c.args.ty.now (tree_of c.in_ok-old.old) value read c.args.path.now (tree_of c.args.leaf) (tree_of c.in-Ok.new) c.in-Ok.ensures.assigned (fits_beside s);
      stored = c.store.ensures.stored;
    }
