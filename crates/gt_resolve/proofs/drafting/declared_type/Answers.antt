use Rattle.std.proofs.Common.{◌∙◌, ap}
use Rattle.gt_drafts.specs.Options.{has_length}
use Rattle.gt_resolve.proofs.DraftLemmas.{declarator_after}
use Rattle.gt_resolve.proofs.drafting.declared_type.Goals as goal

pub returns : goal.returns
returns c =
    record {
      declared = λ ty h.
          declarator_after c.args.scope.now.declarations.items c.args.scope.now.types.items ty c.args.declarator.now c.args.means.now c.in_ok-with_stars.field-0
          c.has_length-replaced.result c.as_slice-2.result.now c.in_ok-bounds.field-0 c.in_ok-bits.field-0 h c.in_ok-with_stars.ensures.following
          (c.has_length-replaced.ensures.same ∙ ap has_length c.as_slice.ensures.items) c.as_slice-2.ensures.items c.in_ok-bounds.ensures.bounds
          c.in_ok-bits.ensures.bits;
    }
