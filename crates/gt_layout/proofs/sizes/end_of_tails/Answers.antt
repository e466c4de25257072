use Rattle.std.proofs.Common.{◌∙◌, ap, sym, max, take, arith}
use Rattle.std.proofs.lemmas.List.{take_more}
use Rattle.gt_layout.specs.Growths.{end_of_tails}
use Rattle.gt_layout.proofs.TailLists.{end-push}
use Rattle.gt_layout.proofs.sizes.end_of_tails.Goals as goal

pub loop-tail-preserved : goal.loop-tail-preserved
loop-tail-preserved c =
    let more = ap (end_of_tails c.args.capacity) (take_more c.args.tails.now c.loop-tail.tail-index (record { offset = 0; elem_size = 0 }) c.loop-tail-test.true) ∙ end-push c.args.capacity (take c.loop-tail.tail-index c.args.tails.now) _ in (
      c.max-end.ensures ∙ ap (λ n. max n c.loop-tail.end) c.end.ensures.end ∙ ap (max _) c.loop-tail.invariant.0 ∙ sym more,
      omega (arith, c.max-end.ensures, c.end.ensures.small, c.loop-tail.invariant.1),
    )
