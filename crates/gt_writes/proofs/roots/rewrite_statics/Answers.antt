use Rattle.std.proofs.Common.{◌∙◌, ap, sym, subst}
use Rattle.gt_space.specs.Range.{IsInside}
use Rattle.gt_value.specs.declared.values.ValueFail.TheVariants.{Shape}
use Rattle.gt_value.specs.Values.{tree_of}
use Rattle.gt_graph.specs.Objects.{blocks_of}
use Rattle.gt_objects.specs.InBytes.{blocks_in}
use Rattle.gt_elements.proofs.Found.{roots}
use Rattle.gt_writes.proofs.Anew.{same_fail}
use Rattle.gt_writes.proofs.AnewStatics.{roots_read, record_fits, record_assigned, record_misfit, some_record}
use Rattle.gt_writes.proofs.roots.rewrite_statics.Goals as goal

pub read_statics-requires-clause-inside : goal.read_statics-requires-clause-inside
read_statics-requires-clause-inside c =
    let heap = c.requires.ready.0 in
    let is = c.requires.ready.1 in
    let stand = roots c.args.schema.now.program c.args.schema.now.layouts c.requires.schema.settled c.requires.schema.laid c.args.objects.now heap is c.sound.ensures.space c.requires.schema.within in
    subst (λ r. IsInside r r.start c.args.schema.now.layouts.statics.size) (sym c.space.ensures) stand.inside

pub read_statics-requires-clause-stand : goal.read_statics-requires-clause-stand
read_statics-requires-clause-stand c =
    let heap = c.requires.ready.0 in
    let is = c.requires.ready.1 in
    let stand = roots c.args.schema.now.program c.args.schema.now.layouts c.requires.schema.settled c.requires.schema.laid c.args.objects.now heap is c.sound.ensures.space c.requires.schema.within in
    (heap.graph.statics, roots_read c.space.ensures stand.stand)

pub assign_statics-requires-clause-fits : goal.assign_statics-requires-clause-fits
assign_statics-requires-clause-fits c =
    let heap = c.requires.ready.0 in
    let is = c.requires.ready.1 in
    let same = ap blocks_in c.of-names.ensures.objects ∙ c.of-names.ensures.blocks c.args.schema.now.program c.args.schema.now.layouts heap c.requires.schema.settled c.requires.schema.laid is in
    let stand = roots c.args.schema.now.program c.args.schema.now.layouts c.requires.schema.settled c.requires.schema.laid c.args.objects.now heap is c.sound.ensures.space c.requires.schema.within in
    let read = c.in_ok-old.ensures.value heap.graph.statics (roots_read c.space.ensures stand.stand) in
    record_fits c.args.schema.now.program (blocks_in c.of-names.result.objects.now) (blocks_of heap.graph.objects) same (tree_of c.in_ok-old.old) heap.graph.statics read stand.stand.are.fit

pub returns-in-Err-clause-shape : goal.returns-in-Err-clause-shape
returns-in-Err-clause-shape c = λ e heap is news assigns.
    let same = ap blocks_in c.of-names.ensures.objects ∙ c.of-names.ensures.blocks c.args.schema.now.program c.args.schema.now.layouts heap c.requires.schema.settled c.requires.schema.laid is in
    let stand = roots c.args.schema.now.program c.args.schema.now.layouts c.requires.schema.settled c.requires.schema.laid c.args.objects.now heap is c.sound.ensures.space c.requires.schema.within in
    let read = c.in_ok-old.ensures.value heap.graph.statics (roots_read c.space.ensures stand.stand) in
    record_misfit c.args.schema.now.program (blocks_in c.of-names.result.objects.now) (blocks_of heap.graph.objects) same (tree_of c.in_ok-old.old) heap.graph.statics read c.args.path.now (tree_of c.args.leaf) news (c.in-Err.ensures.shape (same_fail c.in-Err.fail Shape e)) assigns

pub store_statics-requires-clause-inside : goal.store_statics-requires-clause-inside
store_statics-requires-clause-inside c =
    let heap = c.requires.ready.0 in
    let is = c.requires.ready.1 in
    let stand = roots c.args.schema.now.program c.args.schema.now.layouts c.requires.schema.settled c.requires.schema.laid c.args.objects.now heap is c.sound.ensures.space c.requires.schema.within in
    stand.inside

pub store_statics-requires-clause-fits : goal.store_statics-requires-clause-fits
store_statics-requires-clause-fits c =
    let heap = c.requires.ready.0 in
    let is = c.requires.ready.1 in
    let same = ap blocks_in c.of-names.ensures.objects ∙ c.of-names.ensures.blocks c.args.schema.now.program c.args.schema.now.layouts heap c.requires.schema.settled c.requires.schema.laid is in
    let stand = roots c.args.schema.now.program c.args.schema.now.layouts c.requires.schema.settled c.requires.schema.laid c.args.objects.now heap is c.sound.ensures.space c.requires.schema.within in
    let read = c.in_ok-old.ensures.value heap.graph.statics (roots_read c.space.ensures stand.stand) in
    some_record c.args.schema.now.program (blocks_in c.of-names.result.objects.now) (blocks_of heap.graph.objects) same (tree_of c.in_ok-old.old) heap.graph.statics read c.args.path.now (tree_of c.args.leaf) (tree_of c.in-Ok.new) stand.stand.addresses c.in-Ok.ensures.assigned

pub returns-clause-written : goal.returns-clause-written
returns-clause-written c = λ heap is.
    let same = ap blocks_in c.of-names.ensures.objects ∙ c.of-names.ensures.blocks c.args.schema.now.program c.args.schema.now.layouts heap c.requires.schema.settled c.requires.schema.laid is in
    let stand = roots c.args.schema.now.program c.args.schema.now.layouts c.requires.schema.settled c.requires.schema.laid c.args.objects.now heap is c.sound.ensures.space c.requires.schema.within in
    let read = c.in_ok-old.ensures.value heap.graph.statics (roots_read c.space.ensures stand.stand) in
    let assigned = c.in-Ok.ensures.assigned in
    record {
      news = assigned.news;
      assigns = record_assigned c.args.schema.now.program (blocks_in c.of-names.result.objects.now) (blocks_of heap.graph.objects) same (tree_of c.in_ok-old.old) heap.graph.statics read c.args.path.now (tree_of c.args.leaf) (tree_of c.in-Ok.new) assigned;
      stored = c.store_statics.ensures.stored assigned.news assigned.new_is;
    }
