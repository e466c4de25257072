use Rattle.std.proofs.Common.{◌<◌, sym, subst}
use Rattle.std.specs.Prelude.{IfSome}
use Rattle.gt_links.specs.Lists.{Holds}
use Rattle.pages_table.proofs.lists.entries.Goals as goal

pub loop-preserved : goal.loop-preserved
loop-preserved c =
    let same = c.lists-in-loop.ensures.lists in
    let held = subst (λ o. IfSome o (λ node. Holds c.args.pages.now.lists c.args.i node)) c.in-Some.is c.loop.invariant.held in
    record {
      low = c.loop.invariant.low;
      held =
          subst (λ s. IfSome c.next-node.result (λ node. Holds s c.args.i node)) same
          (c.next-node.ensures.held c.args.i (subst (λ s. Holds s c.args.i c.in-Some.at) (sym same) held));
      within = subst (λ s. IfSome c.next-node.result (λ node. node < s.nodes)) same c.next-node.ensures.bounded;
    }
