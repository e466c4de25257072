use Rattle.std.proofs.Common.{◌≡◌, ◌↔◌, ◌∙◌, IsTrue, false, List, map, ap, sym, subst}
use Rattle.gt_tree.specs.Trees.{Tree, Rec, End}
use Rattle.gt_value.specs.declared.values.Value.{Value}
use Rattle.gt_value.specs.Values.{trees, tree_of}
use Rattle.gt_fit.proofs.PartsFit.{some-parts}
use Rattle.gt_fit.proofs.Values.{rec-tree}
use Rattle.gt_fit.proofs.checks.is_nothing.Goals as goal

pub returns-in_default-as_slice : goal.returns-in_default-as_slice
returns-in_default-as_slice c =
    subst (λ (t : Tree). IsTrue false ↔ (t ≡ Rec End)) (sym (ap tree_of c.in-Rec.is ∙ rec-tree c.in-Rec.parts ∙ ap (λ (vs : List Value). Rec (trees (map tree_of vs))) (sym c.as_slice.ensures.value)))
    (some-parts c.as_slice.result.now c.in_default-as_slice.len_at_least)
