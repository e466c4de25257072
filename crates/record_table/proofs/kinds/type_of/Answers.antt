use Rattle.std.proofs.Common.{subst}
use Rattle.gt_tree.specs.FixedLaws.{MayHold}
use Rattle.gt_value.specs.Names.{kind_of}
use Rattle.record_table.proofs.kinds.type_of.Goals as goal

pub element-requires-clause-stands : goal.element-requires-clause-stands
element-requires-clause-stands c = subst (λ k. MayHold c.args.on.now.program (kind_of k)) c.in-Nodes.is c.requires.holds
