use Rattle.std.proofs.Common.{◌≡◌, subst}
use Rattle.gt_tree.specs.Blocks.{element_type}
use Rattle.gt_tree.specs.FixedLaws.{MayHold}
use Rattle.gt_value.specs.Names.{kind_of}
use Rattle.edges_table.proofs.Sites.{of-structure}
use Rattle.edges_table.proofs.kinds.size_of.Goals as goal

pub returns-in-Nodes : goal.returns-in-Nodes
returns-in-Nodes c =
    let on = c.args.on.now in
    let holds = subst (λ k. MayHold on.program (kind_of k)) c.in-Nodes.is c.requires.holds in
    let is = subst (λ k. c.args.ty.now ≡ element_type on.program (kind_of k)) c.in-Nodes.is c.requires.element in
    record { site = of-structure on.program on.layouts c.args.capacity c.args.ty.now c.in-Nodes.id c.size.result c.requires.ground.settled c.requires.ground.laid holds is c.size.ensures }
