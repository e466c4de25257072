use Rattle.std.proofs.Common.{◌≡◌, false, ap, sym, subst, ◌∙◌}
use Rattle.gt_tree.specs.Trees.{Null, To}
use Rattle.gt_types.specs.Shapes.{is_pointer}
use Rattle.gt_elements.specs.Elements.{owner_of}
use Rattle.gt_next.specs.declared.answer.Why.TheVariants.{NullStep}
use Rattle.gt_next.specs.Paths.{RefusesStep}
use Rattle.gt_routes.specs.Reaching.{spot_of, IsValueAt, IsEndAt}
use Rattle.gt_routes.proofs.Singles.{on-ok, value-leads, value-stops, target-follows, target-object, null-stops, whole-follows, whole-there-at}
use Rattle.gt_routes.proofs.reaching.step.Goals as goal

pub returns-in-Object-clause-leads : goal.returns-in-Object-clause-leads
returns-in-Object-clause-leads c =
    let schema = c.args.schema.now in
    let from = spot_of c.args.reached.now in
    on-ok c.object_step.result
    (λ leads heap is.
    let whole = subst (λ e. IsEndAt schema.program schema.layouts c.args.objects.now heap from e) c.in-Object.is (c.requires.stands heap is) in
    (leads heap is).steps from (whole-follows schema.program heap.graph from c.in-Object-owner.address whole.0 (ap owner_of c.in-Object-owner.is) whole.1 whole.2))
    c.object_step.ensures.leads

pub returns-in-Object-clause-refused : goal.returns-in-Object-clause-refused
returns-in-Object-clause-refused c why e heap is =
    let schema = c.args.schema.now in
    let from = spot_of c.args.reached.now in
    let whole = subst (λ e. IsEndAt schema.program schema.layouts c.args.objects.now heap from e) c.in-Object.is (c.requires.stands heap is) in
    c.object_step.ensures.refused why e heap is from (whole-follows schema.program heap.graph from c.in-Object-owner.address whole.0 (ap owner_of c.in-Object-owner.is) whole.1 whole.2)

pub returns-then-not-is_pointer-clause-leads : goal.returns-then-not-is_pointer-clause-leads
returns-then-not-is_pointer-clause-leads c =
    let schema = c.args.schema.now in
    let from = spot_of c.args.reached.now in
    let at = c.in-Value.at in
    let plain : is_pointer at.ty.now ≡ false = ap is_pointer (sym c.ty.ensures) ∙ sym c.is_pointer.ensures ∙ c.if-not-is_pointer.true in
    on-ok c.value_step.result
    (λ leads heap is.
    let v = subst (λ e. IsEndAt schema.program schema.layouts c.args.objects.now heap from e) c.in-Value.is (c.requires.stands heap is) in
    value-leads schema.program schema.layouts c.args.objects.now heap from at v plain c.args.hop.now c.value_step.new.reached (leads heap is))
    c.value_step.ensures.leads

pub returns-then-not-is_pointer-clause-refused : goal.returns-then-not-is_pointer-clause-refused
returns-then-not-is_pointer-clause-refused c why e heap is =
    let schema = c.args.schema.now in
    let from = spot_of c.args.reached.now in
    let at = c.in-Value.at in
    let plain : is_pointer at.ty.now ≡ false = ap is_pointer (sym c.ty.ensures) ∙ sym c.is_pointer.ensures ∙ c.if-not-is_pointer.true in
    let v = subst (λ e. IsEndAt schema.program schema.layouts c.args.objects.now heap from e) c.in-Value.is (c.requires.stands heap is) in
    value-stops schema.program schema.layouts c.args.objects.now heap from at v plain c.args.hop.now why (c.value_step.ensures.refused why e heap is)

pub target-requires-clause-stands : goal.target-requires-clause-stands
target-requires-clause-stands c =
    let schema = c.args.schema.now in
    let heap = c.requires.ready.0 in
    let v : IsValueAt schema.program schema.layouts c.args.objects.now heap (spot_of c.args.reached.now) c.in-Value.at =
    subst (λ e. IsEndAt schema.program schema.layouts c.args.objects.now heap (spot_of c.args.reached.now) e) c.in-Value.is (c.requires.stands heap c.requires.ready.1) in
    (v.frame, v.value, v.path, v.here, v.space_is ∙ sym c.space.ensures)

pub returns-in-Some-clause-leads : goal.returns-in-Some-clause-leads
returns-in-Some-clause-leads c =
    let schema = c.args.schema.now in
    let from = spot_of c.args.reached.now in
    on-ok c.object_step-in-Some.result
    (λ leads heap is.
    let v : IsValueAt schema.program schema.layouts c.args.objects.now heap from c.in-Value.at = subst (λ e. IsEndAt schema.program schema.layouts c.args.objects.now heap from e) c.in-Value.is (c.requires.stands heap is) in
    let names : v.here.here.p.tree ≡ To c.in-Some.address = c.in-Some.ensures.target v.frame v.value v.path v.here (v.space_is ∙ sym c.space.ensures) in
    (leads heap is).steps from (target-follows schema.program schema.layouts c.args.objects.now heap from c.in-Value.at v c.in-Some.address names))
    c.object_step-in-Some.ensures.leads

pub returns-in-Some-clause-refused : goal.returns-in-Some-clause-refused
returns-in-Some-clause-refused c why e heap is =
    let schema = c.args.schema.now in
    let from = spot_of c.args.reached.now in
    let v : IsValueAt schema.program schema.layouts c.args.objects.now heap from c.in-Value.at = subst (λ e. IsEndAt schema.program schema.layouts c.args.objects.now heap from e) c.in-Value.is (c.requires.stands heap is) in
    let names : v.here.here.p.tree ≡ To c.in-Some.address = c.in-Some.ensures.target v.frame v.value v.path v.here (v.space_is ∙ sym c.space.ensures) in
    c.object_step-in-Some.ensures.refused why e heap is from (target-follows schema.program schema.layouts c.args.objects.now heap from c.in-Value.at v c.in-Some.address names)

pub returns-in-None-clause-refused : goal.returns-in-None-clause-refused
returns-in-None-clause-refused c why e heap is =
    let schema = c.args.schema.now in
    let from = spot_of c.args.reached.now in
    let v : IsValueAt schema.program schema.layouts c.args.objects.now heap from c.in-Value.at = subst (λ e. IsEndAt schema.program schema.layouts c.args.objects.now heap from e) c.in-Value.is (c.requires.stands heap is) in
    let null : v.here.here.p.tree ≡ Null = c.in-None.ensures.target v.frame v.value v.path v.here (v.space_is ∙ sym c.space.ensures) in
    let same : NullStep ≡ why = cc in
    subst (RefusesStep schema.program heap.graph from c.args.hop.now) same (null-stops schema.program schema.layouts c.args.objects.now heap from c.in-Value.at v c.args.hop.now null)

pub object_step-requires-clause-there : goal.object_step-requires-clause-there
object_step-requires-clause-there c heap is =
    let schema = c.args.schema.now in
    let from = spot_of c.args.reached.now in
    let whole = subst (λ e. IsEndAt schema.program schema.layouts c.args.objects.now heap from e) c.in-Object.is (c.requires.stands heap is) in
    whole-there-at schema.program heap.graph from c.in-Object-owner.address whole.0 (ap owner_of c.in-Object-owner.is) whole.1 whole.2

pub object_step-requires-in-Some-clause-there : goal.object_step-requires-in-Some-clause-there
object_step-requires-in-Some-clause-there c heap is =
    let schema = c.args.schema.now in
    let from = spot_of c.args.reached.now in
    let v : IsValueAt schema.program schema.layouts c.args.objects.now heap from c.in-Value.at = subst (λ e. IsEndAt schema.program schema.layouts c.args.objects.now heap from e) c.in-Value.is (c.requires.stands heap is) in
    let names : v.here.here.p.tree ≡ To c.in-Some.address = c.in-Some.ensures.target v.frame v.value v.path v.here (v.space_is ∙ sym c.space.ensures) in
    target-object schema.program schema.layouts c.args.objects.now heap from c.in-Value.at is v c.in-Some.address names
