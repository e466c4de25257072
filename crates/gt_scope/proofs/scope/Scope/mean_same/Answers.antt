use Rattle.std.proofs.Common.{◌∙◌, subst, sym}
use Rattle.gt_items.specs.declared.items.Stars.TheVariants.{Zero}
use Rattle.gt_scope.specs.Kinds.{names_in, IsMeant}
use Rattle.gt_scope.specs.Meanings.{means_after, resolved_type}
use Rattle.gt_scope.proofs.KindLemmas.{after_meant, meant_same}
use Rattle.gt_scope.proofs.scope.Scope.mean_same.Goals as goal

pub returns : goal.returns
returns c =
    record {
      same = λ d e t u found is there other.
          let tags = names_in c.args.self.now.targets.tags in
          let x = resolved_type c.args.self.now.declarations.items c.args.self.now.types.items t Zero in
          let y = resolved_type c.args.self.now.declarations.items c.args.self.now.types.items u Zero in
          c.same_meant.ensures.same
          ∙ meant_same tags c.meant_after-means.result c.meant_after-other.result (means_after c.args.stars x) (means_after c.args.others y)
          (subst (λ m. IsMeant tags m (means_after c.args.stars x)) (sym c.meant_after-means.ensures.means)
          (after_meant tags c.args.stars c.meaning_at.result x (c.meaning_at.ensures.means d t found is)))
          (subst (λ m. IsMeant tags m (means_after c.args.others y)) (sym c.meant_after-other.ensures.means)
          (after_meant tags c.args.others c.meaning_at-2.result y (c.meaning_at-2.ensures.means e u there other)));
    }
