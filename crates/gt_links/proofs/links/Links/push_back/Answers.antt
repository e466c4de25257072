use Rattle.std.proofs.Common.{sym, subst}
use Rattle.gt_links.specs.declared.rings.Entry.{Entry}
use Rattle.gt_links.specs.Rings.{IsPlace}
use Rattle.gt_links.proofs.Calls.{last_is_place, free_links, pushed_back}
use Rattle.gt_links.proofs.links.Links.push_back.Goals as goal

pub insert_after-requires-clause-before : goal.insert_after-requires-clause-before
insert_after-requires-clause-before c =
    subst (λ (e : Entry). IsPlace c.self.inside.rings e.previous) (sym c.entry-last.ensures) (last_is_place c.self.inside.rings c.args.self.now c.self.view_is c.self.invariant c.args.list c.requires.list)

pub insert_after-requires-clause-alone : goal.insert_after-requires-clause-alone
insert_after-requires-clause-alone c =
    (free_links c.self.inside.rings c.args.self.now c.self.view_is c.self.invariant c.args.node c.requires.node c.requires.free).1

pub invariant_of-self : goal.invariant_of-self
invariant_of-self c =
    (pushed_back c.self.inside.rings c.args.self.now c.self.view_is c.self.invariant _ c.args.node c.requires.node c.args.list c.requires.list c.requires.free (rw c.entry-last.ensures at c.insert_after.ensures)).0

pub returns : goal.returns
returns c = record {
  back = (pushed_back c.self.inside.rings c.args.self.now c.self.view_is c.self.invariant _ c.args.node c.requires.node c.args.list c.requires.list c.requires.free (rw c.entry-last.ensures at c.insert_after.ensures)).1;
}
