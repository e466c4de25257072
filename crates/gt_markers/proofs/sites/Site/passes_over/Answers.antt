use Rattle.std.proofs.Common.{◌∙◌, Bool, refl, ap, sym}
use Rattle.std.specs.Prelude.{◌&&◌, not, codes}
use Rattle.gt_markers.specs.Options.{stands_beside_skip}
use Rattle.gt_markers.specs.Sites.{is_passed_over}
use Rattle.gt_markers.specs.SiteViews.{site_of}
use Rattle.gt_markers.specs.declared.kinds.OptionKind.TheVariants.{Skip}
use Rattle.gt_markers.proofs.KindLemmas.{has_word}
use Rattle.gt_markers.proofs.sites.Site.passes_over.Goals as goal

pub returns-in-Field : goal.returns-in-Field
returns-in-Field c =
    record {
      passes = λ options are.
          c.is_skipped.ensures.skipped
          ∙ ap (λ (b : Bool). b && not (stands_beside_skip c.args.kind)) (has_word (codes "skip") Skip refl options c.args.all are)
          ∙ ap (λ s. is_passed_over (site_of s) options c.args.kind) (sym c.in-Field.is);
    }
