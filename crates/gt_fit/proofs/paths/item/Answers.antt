use Rattle.std.proofs.Common.{sym, ap, ◌∙◌}
use Rattle.gt_fit.specs.Values.{maybe_tree}
use Rattle.gt_fit.proofs.Values.{tree_at-trees}
use Rattle.gt_fit.proofs.paths.item.Goals as goal

pub returns : goal.returns
returns c = ap maybe_tree c.nth.ensures ∙ sym (tree_at-trees c.args.parts.now c.args.place)
