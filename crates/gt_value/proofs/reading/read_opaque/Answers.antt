use Rattle.std.proofs.Common.{◌∙◌, ap}
use Rattle.gt_tree.specs.Trees.{Raw}
use Rattle.gt_value.proofs.TreesOf.{tree-raw}
use Rattle.gt_value.proofs.LeafReads.{opaque-inside, opaque-here}
use Rattle.gt_value.proofs.reading.read_opaque.Goals as goal

pub bytes_at-requires-clause-inside : goal.bytes_at-requires-clause-inside
bytes_at-requires-clause-inside c = opaque-inside c.args.source.now c.args.around c.args.size c.args.align c.args.at c.requires.stands.0 c.requires.stands.1

pub returns : goal.returns
returns c value stands = tree-raw c.in_ok-bytes.bytes ∙ ap Raw c.in_ok-bytes.ensures ∙ opaque-here c.args.source.now c.args.around c.args.size c.args.align c.args.at value stands
