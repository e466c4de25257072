use Rattle.std.proofs.Common.{◌∙◌, ap, subst, sym, take}
use Rattle.std.proofs.lemmas.List.{take_more}
use Rattle.gt_layout.specs.Progress.{with_tail, with_tails}
use Rattle.gt_layout.proofs.TailLists.{Rise, more-push, more-rise}
use Rattle.gt_layout.proofs.growths.add_tails.Goals as goal

pub loop-tail-preserved : goal.loop-tail-preserved
loop-tail-preserved c =
    c.in_ok-add_tail.ensures ∙ ap (with_tail _) c.loop-tail.invariant
    ∙ sym (ap (λ ts. with_tails ts c.args.tails.now.items) (take_more c.args.more.now c.loop-tail.tail-index _ c.loop-tail-test.true) ∙ more-push (take c.loop-tail.tail-index c.args.more.now) _ c.args.tails.now.items)

pub add_tail-requires : goal.add_tail-requires
add_tail-requires c = subst Rise (sym c.loop-tail.invariant) (more-rise (take c.loop-tail.tail-index c.args.more.now) c.args.tails.now.items c.requires)
