use Rattle.std.proofs.Common.{◌≡◌, ◌∙◌, Some, ap, arith, refl, sym}
use Rattle.std.specs.Prelude.{slice_get}
use Rattle.std.proofs.lemmas.Option.{slice_get-get_or}
use Rattle.gt_resolve.proofs.Classes.{marked_more, marked_end}
use Rattle.gt_resolve.proofs.redefined.redefinition_by_places.Goals as goal

pub loop-place-preserved : goal.loop-place-preserved
loop-place-preserved c =
    let found : slice_get c.args.scope.now.declarations.items c.loop-place.place ≡ Some c.d-item.result =
    ap (λ ds. slice_get ds c.loop-place.place) (sym c.deref-d-items.ensures.value)
    ∙ slice_get-get_or c.deref-d-items.result.now c.loop-place.place c.d-item.result (omega arith) ∙ ap Some (sym c.d-item.is) in
    marked_more c.args.scope.now.declarations.items c.args.scope.now.types.items c.args.tags.now c.args.others.now c.deref-d-items.result.now
    c.args.scope.now.declarations.items c.loop-place.place c.d-item.result c.loop-place.clashed.items c.deref.result.now c.mark.new.clashed.items
    c.first_place-first.result c.is_clash-clash.result c.loop-place.earliest c.with_fault-earliest.result c.deref-d-items.ensures.value (omega arith) c.d-item.is
    c.first_place-first.ensures.place c.deref.ensures.value (c.is_clash-clash.ensures.clash c.d-item.result found refl) c.mark.ensures.marked c.with_fault-earliest.ensures.same
    ∙ c.loop-place.invariant

pub returns : goal.returns
returns c =
    record {
      earliest =
          marked_end c.args.scope.now.declarations.items c.args.scope.now.types.items c.args.tags.now c.args.others.now c.deref-d-items.result.now
          c.args.scope.now.declarations.items c.loop-place.place c.loop-place.clashed.items c.loop-place.earliest c.deref-d-items.ensures.value (omega arith)
          ∙ c.loop-place.invariant;
    }
