use Rattle.std.proofs.Common.{ap, sym, subst, ◌∙◌}
use Rattle.gt_value.proofs.CursorSteps.{split-path}
use Rattle.gt_elements.specs.Elements.{owner_of}
use Rattle.gt_graph.specs.Changes.{Of}
use Rattle.gt_next.specs.Spots.{spot}
use Rattle.gt_writes.specs.SpotWrites.{SpotTakes, IsWrittenAt}
use Rattle.gt_writes.specs.FoundLeaves.{LiesInElement}
use Rattle.gt_writes.proofs.Anew.{once_ok}
use Rattle.gt_writes.proofs.AtElement.{first_there, rest_same}
use Rattle.gt_writes.proofs.writing.write.Goals as goal

pub write_in_statics-requires-clause-may : goal.write_in_statics-requires-clause-may
write_in_statics-requires-clause-may c = λ heap is. subst (λ o. SpotTakes c.args.schema.now.program heap.graph (spot (owner_of o) c.args.path.now) c.args.leaf) c.in-Statics.is (c.requires.may heap is)

pub write_in_object-requires-clause-may : goal.write_in_object-requires-clause-may
write_in_object-requires-clause-may c = λ heap is.
    subst (λ p. SpotTakes c.args.schema.now.program heap.graph (spot (Of c.in-Object.addr) p) c.args.leaf) (split-path c.args.path.now c.in-len1-up.len_at_least)
    (subst (λ o. SpotTakes c.args.schema.now.program heap.graph (spot (owner_of o) c.args.path.now) c.args.leaf) c.in-Object.is (c.requires.may heap is))

pub returns-in-Statics-clause-written : goal.returns-in-Statics-clause-written
returns-in-Statics-clause-written c = once_ok c.write_in_statics.result
    (λ written heap is. subst (λ o. IsWrittenAt c.args.schema.now.program c.args.schema.now.layouts heap (owner_of o) c.args.path.now c.args.leaf c.write_in_statics.new.objects) (sym c.in-Statics.is) (written heap is))
    c.write_in_statics.ensures.written

pub returns-in-len1-up-clause-written : goal.returns-in-len1-up-clause-written
returns-in-len1-up-clause-written c = once_ok c.write_in_object.result
    (λ written heap is.
    subst (λ o. IsWrittenAt c.args.schema.now.program c.args.schema.now.layouts heap (owner_of o) c.args.path.now c.args.leaf c.write_in_object.new.objects) (sym c.in-Object.is)
    (subst (λ p. IsWrittenAt c.args.schema.now.program c.args.schema.now.layouts heap (Of c.in-Object.addr) p c.args.leaf c.write_in_object.new.objects) (sym (split-path c.args.path.now c.in-len1-up.len_at_least)) (written heap is)))
    c.write_in_object.ensures.written

pub write_in_object-requires-clause-found : goal.write_in_object-requires-clause-found
write_in_object-requires-clause-found c = λ f known heap is.
    first_there c.args.schema.now.program c.args.schema.now.layouts c.args.objects.now heap (owner_of c.args.owner) c.in-Object.addr (ap owner_of c.in-Object.is) c.args.path.now _ _ (split-path c.args.path.now c.in-len1-up.len_at_least) f.element (c.requires.found f known heap is).first

pub write_in_object-requires-clause-lies : goal.write_in_object-requires-clause-lies
write_in_object-requires-clause-lies c = λ f known.
    let there = c.requires.found f known c.requires.ready.0 c.requires.ready.1 in
    subst (λ r. LiesInElement c.args.schema.now.program c.args.schema.now.layouts c.args.objects.now.space f.element r f.place) (rest_same _ _ _ _ (sym there.first.path_is ∙ split-path c.args.path.now c.in-len1-up.len_at_least)) there.lies

pub write_in_object-requires-clause-target : goal.write_in_object-requires-clause-target
write_in_object-requires-clause-target c = λ f known t is heap holds. (c.requires.found f known heap holds).target t is
