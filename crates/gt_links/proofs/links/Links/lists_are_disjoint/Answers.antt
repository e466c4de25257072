use Rattle.gt_links.proofs.Calls.{are_distinct, are_disjoint, are_bounded, are_short, nodes_are_few, lists_are_few}
use Rattle.gt_links.proofs.links.Links.lists_are_disjoint.Goals as goal

pub returns-clause-distinct : goal.returns-clause-distinct
returns-clause-distinct c =
    are_distinct c.self.inside.rings c.args.self.now c.self.view_is c.self.invariant

pub returns-clause-disjoint : goal.returns-clause-disjoint
returns-clause-disjoint c =
    are_disjoint c.self.inside.rings c.args.self.now c.self.view_is c.self.invariant

pub returns-clause-bounded : goal.returns-clause-bounded
returns-clause-bounded c =
    are_bounded c.self.inside.rings c.args.self.now c.self.view_is c.self.invariant

pub returns-clause-short : goal.returns-clause-short
returns-clause-short c =
    are_short c.self.inside.rings c.args.self.now c.self.view_is c.self.invariant

pub returns-clause-nodes : goal.returns-clause-nodes
returns-clause-nodes c =
    nodes_are_few c.self.inside.rings c.args.self.now c.self.view_is c.self.invariant

pub returns-clause-lists : goal.returns-clause-lists
returns-clause-lists c =
    lists_are_few c.self.inside.rings c.args.self.now c.self.view_is c.self.invariant
