use Rattle.std.proofs.Common.{◌∙◌, arith}
use Rattle.gt_layout.proofs.Growing.{inserted-past, inserted-read, merged-read}
use Rattle.gt_layout.proofs.growths.add_tail.Goals.{else-place-len-via-then-place-len+else-index-tail, else-place-len-via-else-place-len}
use Rattle.gt_layout.proofs.growths.add_tail.Goals as goal

pub returns-then-index-tail : goal.returns-then-index-tail
returns-then-index-tail c =
    merged-read c.args.tail c.index.result.now c.index-then-index-tail.result.now c.index_mut.result.now c.as_slice.result.now c.args.tails.now.items c.place_of-place.result c.max.result
    c.place_of-place.ensures c.as_slice.ensures.value (omega (arith, c.if-place-len.true, c.len.ensures)) c.index.ensures c.if-index-tail.true c.index-then-index-tail.ensures c.index_mut.ensures.value c.max.ensures

pub returns : goal.returns
returns c =
    c.in_ok-insert.ensures.items
    ∙ elim c.else-place-len.branch [
      | else-place-len-via-then-place-len+else-index-tail w ↦
          inserted-read c.args.tail w.index.result.now c.as_slice.result.now c.args.tails.now.items c.place_of-place.result c.place_of-place.ensures c.as_slice.ensures.value
          (omega (arith, w.if-place-len.true, c.len.ensures)) w.index.ensures (λ e. w.if-index-tail.false e)
      | else-place-len-via-else-place-len w ↦
          inserted-past c.args.tail c.as_slice.result.now c.args.tails.now.items c.place_of-place.result c.place_of-place.ensures c.as_slice.ensures.value (omega (arith, w.if-place-len.false, c.len.ensures))
    ]
