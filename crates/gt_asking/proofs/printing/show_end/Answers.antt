use Rattle.std.proofs.Common.{ap, subst, ◌∙◌}
use Rattle.gt_elements.specs.Elements.{owner_of}
use Rattle.gt_objects.specs.InBytes.{blocks_in}
use Rattle.gt_value.specs.Values.{tree_of}
use Rattle.gt_routes.specs.Reaching.{spot_of, IsEndAt}
use Rattle.gt_asking.proofs.Showing.{block-shown, value-shown, read-fits}
use Rattle.gt_asking.proofs.printing.show_end.Goals as goal

pub returns-in-Object-owner : goal.returns-in-Object-owner
returns-in-Object-owner c =
    let schema = c.args.schema.now in
    let at = spot_of c.args.to.now in
    record {
      shown = block-shown schema.program schema.layouts c.args.objects.now at c.show_object.result c.in-Object-owner.addr (ap owner_of c.in-Object-owner.is)
          (λ heap is. subst (IsEndAt schema.program schema.layouts c.args.objects.now heap at) c.in-Object.is (c.requires.end heap is)) c.show_object.ensures.shown;
    }

pub read-requires : goal.read-requires
read-requires c =
    let schema = c.args.schema.now in
    let heap = c.requires.ready.0 in
    let v = subst (IsEndAt schema.program schema.layouts c.args.objects.now heap (spot_of c.args.to.now)) c.in-Value.is (c.requires.end heap c.requires.ready.1) in
    record { stands = record { at = v.frame; value = v.value; path = v.path; is = v.here.here } }

pub show-requires-clause-fits : goal.show-requires-clause-fits
show-requires-clause-fits c =
    let schema = c.args.schema.now in
    let objects = c.args.objects.now in
    let heap = c.requires.ready.0 in
    let is = c.requires.ready.1 in
    let at = spot_of c.args.to.now in
    let v = subst (IsEndAt schema.program schema.layouts objects heap at) c.in-Value.is (c.requires.end heap is) in
    let named = ap blocks_in c.of-names.ensures.objects ∙ c.of-names.ensures.blocks schema.program schema.layouts heap c.requires.schema.settled c.requires.schema.laid is in
    read-fits schema.program schema.layouts objects heap at c.in-Value.cursor (blocks_in c.of-names.result.objects.now) c.ty.result.now (tree_of c.in_ok-value.value) is v named c.ty.ensures
    (c.in_ok-value.ensures.value v.frame v.value v.path v.here.here)

pub returns : goal.returns
returns c =
    let schema = c.args.schema.now in
    let objects = c.args.objects.now in
    let at = spot_of c.args.to.now in
    record {
      shown = value-shown schema.program schema.layouts objects at c.show.result c.in-Value.cursor (blocks_in c.of-names.result.objects.now) c.ty.result.now (tree_of c.in_ok-value.value)
          (λ heap is. ap blocks_in c.of-names.ensures.objects ∙ c.of-names.ensures.blocks schema.program schema.layouts heap c.requires.schema.settled c.requires.schema.laid is)
          c.ty.ensures
          (λ heap is.
          let v = subst (IsEndAt schema.program schema.layouts objects heap at) c.in-Value.is (c.requires.end heap is) in
          (v, c.in_ok-value.ensures.value v.frame v.value v.path v.here.here))
          c.show.ensures.shown;
    }
