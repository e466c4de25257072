use Rattle.gt_value.specs.Names.{kind_of}
use Rattle.gt_kinds.proofs.TypeKinds.{node-named}
use Rattle.gt_kinds.proofs.index.ProgramNames.node.Goals as goal

pub returns-in-Some : goal.returns-in-Some
returns-in-Some c = record { node = node-named c.requires.settled c.node_in.result (kind_of c.in-Some.kind) c.in-Some.ensures.kind c.node_in.ensures.node }
