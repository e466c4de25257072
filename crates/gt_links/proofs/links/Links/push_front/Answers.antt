use Rattle.gt_links.proofs.Calls.{free_links, pushed_front}
use Rattle.gt_links.proofs.links.Links.push_front.Goals as goal

pub insert_after-requires-clause-alone : goal.insert_after-requires-clause-alone
insert_after-requires-clause-alone c =
    (free_links c.self.inside.rings c.args.self.now c.self.view_is c.self.invariant c.args.node c.requires.node c.requires.free).1

pub invariant_of-self : goal.invariant_of-self
invariant_of-self c =
    (pushed_front c.self.inside.rings c.args.self.now c.self.view_is c.self.invariant _ c.args.node c.requires.node c.args.list c.requires.list c.requires.free c.insert_after.ensures).0

pub returns : goal.returns
returns c = record {
  front = (pushed_front c.self.inside.rings c.args.self.now c.self.view_is c.self.invariant _ c.args.node c.requires.node c.args.list c.requires.list c.requires.free c.insert_after.ensures).1;
}
