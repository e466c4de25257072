use Rattle.gt_resolve.proofs.Classes.{earliest_redefined}
use Rattle.gt_resolve.proofs.redefined.redefinition.Goals as goal

pub returns : goal.returns
returns c =
    record {
      earliest =
          earliest_redefined c.args.scope.now.declarations.items c.args.scope.now.types.items c.deref.result.now c.deref-2.result.now c.in_ok-tags.tags
          c.in_ok-others.others c.redefinition_by_places.result c.deref.ensures.value c.deref-2.ensures.value c.in_ok-tags.ensures.places c.in_ok-others.ensures.places
          c.redefinition_by_places.ensures.earliest;
    }
