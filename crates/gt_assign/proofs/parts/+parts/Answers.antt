use Rattle.std.proofs.Common.{sym, ap, ◌∙◌, map, option_copied}
use Rattle.gt_value.specs.Values.{trees, tree_of}
use Rattle.gt_fit.specs.Values.{maybe_tree}
use Rattle.gt_assign.proofs.PartPaths.{part-nowhere, part-there}
use Rattle.gt_assign.proofs.parts.+parts.Goals as goal

pub part_of-returns-in-None : goal.part_of-returns-in-None
part_of-returns-in-None t c = sym (part-nowhere (trees (map tree_of c.args.parts.now)) c.args.i c.args.path.now (sym c.item.ensures ∙ ap (λ o. maybe_tree (option_copied o)) c.in-None.is))

pub part_of-returns-in-Some : goal.part_of-returns-in-Some
part_of-returns-in-Some t c =
    c.part_at.ensures
    ∙ sym (part-there (trees (map tree_of c.args.parts.now)) c.args.i c.args.path.now (tree_of c.in-Some.part.now) (sym c.item.ensures ∙ ap (λ o. maybe_tree (option_copied o)) c.in-Some.is))
