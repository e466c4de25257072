use Rattle.gt_links.proofs.Calls.{removed, removed_is_free}
use Rattle.gt_links.proofs.links.Links.unlink.Goals as goal

pub invariant_of-self : goal.invariant_of-self
invariant_of-self c =
    (removed c.self.inside.rings c.args.self.now c.self.view_is c.self.invariant _ c.args.node c.requires.node c.requires.linked.0 c.requires.linked.1 c.remove.ensures).0

pub returns-clause-taken : goal.returns-clause-taken
returns-clause-taken c i holds =
    (removed c.self.inside.rings c.args.self.now c.self.view_is c.self.invariant _ c.args.node c.requires.node i holds c.remove.ensures).1

pub returns-clause-free : goal.returns-clause-free
returns-clause-free c =
    removed_is_free c.self.inside.rings c.args.self.now c.self.view_is c.self.invariant _ c.args.node c.requires.node c.requires.linked.0 c.requires.linked.1 c.remove.ensures
