use Rattle.std.proofs.Common.{◌∙◌, List, map, ap, sym, subst}
use Rattle.gt_tree.specs.Trees.{Rec, Trees}
use Rattle.gt_tree.specs.Fits.{StaticsFit}
use Rattle.gt_value.specs.declared.values.Value.{Value}
use Rattle.gt_value.specs.Values.{trees, tree_of}
use Rattle.gt_show.proofs.TreesOf.{rec_if_tree, tree-rec}
use Rattle.gt_show.proofs.RootTexts.{same-parts, shown-alone}
use Rattle.gt_show.proofs.statics.show_statics.Goals as goal

pub unreachable-requires : goal.unreachable-requires
unreachable-requires g c = rec_if_tree c.args.values.now c.requires.fits.0 c.requires.fits.1 c.in_default.not-Rec

pub push_roots-requires-clause-fit : goal.push_roots-requires-clause-fit
push_roots-requires-clause-fit g c =
    let is = ap tree_of c.in-Rec.is ∙ tree-rec c.in-Rec.parts ∙ ap (λ (vs : List Value). Rec (trees (map tree_of vs))) (sym c.deref.ensures.value) in
    subst (λ (ts : Trees). StaticsFit c.args.program.now (g.N.BlockNames.blocks c.args.names.now) ts) (same-parts c.requires.fits.0 (trees (map tree_of c.deref.result.now)) (sym c.requires.fits.1 ∙ is)) c.requires.fits.2

pub returns : goal.returns
returns g c = record {
  shown = λ parts e.
      let is = ap tree_of c.in-Rec.is ∙ tree-rec c.in-Rec.parts ∙ ap (λ (vs : List Value). Rec (trees (map tree_of vs))) (sym c.deref.ensures.value) in
      shown-alone (trees (map tree_of c.deref.result.now)) parts c.new-text.result c.push_roots.new.text (same-parts (trees (map tree_of c.deref.result.now)) parts (sym is ∙ e)) c.new-text.ensures.empty c.in_ok-push_roots.ensures.added;
}
