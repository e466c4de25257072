use Rattle.std.proofs.Common.{◌∙◌, Bool, refl, ap}
use Rattle.std.specs.Prelude.{◌&&◌, not, codes}
use Rattle.gt_markers.specs.declared.kinds.OptionKind.TheVariants.{Length, Atomic}
use Rattle.gt_markers.specs.Sites.{is_single, is_sorted_base}
use Rattle.gt_drafts.specs.Options.{has_option}
use Rattle.gt_markers.proofs.KindLemmas.{has_word}
use Rattle.gt_markers.proofs.sites.is_sorted.Goals as goal

pub returns : goal.returns
returns c = λ options are.
    let t = c.args.ty.now in
    let counted = c.has-counted.ensures.has ∙ has_word (codes "length") Length refl options c.args.all are in
    let atomic = c.has-atomic.ensures.has ∙ has_word (codes "atomic") Atomic refl options c.args.all are in
    c.is_sortable.ensures
    ∙ ap (λ (b : Bool). is_single t && is_sorted_base b t.resolved.base t.resolved.stars && not c.has-atomic.result) counted
    ∙ ap (λ (b : Bool). is_single t && is_sorted_base (has_option (codes "length") options) t.resolved.base t.resolved.stars && not b) atomic
