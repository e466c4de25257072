use Rattle.std.proofs.Common.{◌≡◌, ◌↔◌, ℕ, false, ap, slice_get, ◌∙◌}
use Rattle.std.specs.Prelude.{Contains}
use Rattle.std.proofs.lemmas.Result.{IfOk-weaker}
use Rattle.gt_sets.specs.Sets.{IsIn}
use Rattle.gt_paths.specs.declared.outers.Outers.{Outers}
use Rattle.gt_paths.specs.Indexes.{inner_in}
use Rattle.gt_paths.specs.Numbers.{mark_at}
use Rattle.gt_paths.specs.OuterPaths.{AreStarts}
use Rattle.gt_paths.proofs.Outermost.{are_starts}
use Rattle.gt_paths.proofs.outer_paths.outermost_of.Goals as goal

pub returns-in-Some : goal.returns-in-Some
returns-in-Some c = record {
  starts = λ program on.
      IfOk-weaker c.not_inner.result (λ v. (i : ℕ) → Contains v.items i ↔ (IsIn c.deref.result.now i × (mark_at c.args.index.now.inner i ≡ false)))
      (λ v. AreStarts (inner_in c.args.index.now) program c.args.node v.items)
      (λ v chosen.
      are_starts program c.args.index.now c.args.node c.in-Some.set.now c.deref.result.now v.items on.outers
      (c.in-Some.ensures.outers ∙ ap (λ (outers : Outers). slice_get outers.sets c.args.node.0) c.outers.ensures.outers) c.deref.ensures chosen) c.not_inner.ensures.chosen;
}
