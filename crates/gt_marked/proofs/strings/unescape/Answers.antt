use Rattle.std.proofs.Common.{sym, arith}
use Rattle.gt_marked.proofs.Escapes.{unescaped_backslash, unescaped_plain, unescaped_escaped, unescaped_wrong, unescaped_ends, unescaped_breaks}
use Rattle.gt_marked.proofs.strings.unescape.Goals as goal
use Rattle.gt_marked.proofs.strings.unescape.Goals.{then-is_escaped+else-not-may_be_escaped, else-is_escaped+else-byte-eq92}

pub returns-then-not-may_be_escaped : goal.returns-then-not-may_be_escaped
returns-then-not-may_be_escaped c =
    let so_far = rw c.if-is_escaped.true at c.loop-byte.invariant in
    unescaped_wrong c.args.text.now c.loop-byte.bytes c.loop-byte.byte-index _ (omega arith) so_far (sym c.if-not-may_be_escaped.ensures)

pub loop-byte-preserved-then-byte-eq92 : goal.loop-byte-preserved-then-byte-eq92
loop-byte-preserved-then-byte-eq92 c =
    let so_far = rw c.if-is_escaped.false at c.loop-byte.invariant in
    unescaped_backslash c.args.text.now c.loop-byte.bytes c.loop-byte.byte-index _ (omega arith) so_far (omega arith)

pub loop-byte-preserved : goal.loop-byte-preserved
loop-byte-preserved c =
    rw c.in_ok-push.ensures.added
    (elim c.if-is_escaped.branch [
      | then-is_escaped+else-not-may_be_escaped w ↦
          let so_far = rw w.if-is_escaped.true at c.loop-byte.invariant in
          unescaped_escaped c.args.text.now c.loop-byte.bytes c.loop-byte.byte-index _ (omega arith) so_far (sym w.if-not-may_be_escaped.ensures)
      | else-is_escaped+else-byte-eq92 w ↦
          let so_far = rw w.if-is_escaped.false at c.loop-byte.invariant in
          unescaped_plain c.args.text.now c.loop-byte.bytes c.loop-byte.byte-index _ (omega arith) so_far (λ e. w.if-byte-eq92.false e)
    ])

pub returns-then-is_escaped-2 : goal.returns-then-is_escaped-2
returns-then-is_escaped-2 c =
    let so_far = rw c.if-is_escaped-2.true at c.loop-byte.invariant in
    unescaped_breaks c.args.text.now c.loop-byte.bytes c.loop-byte.byte-index _ (omega arith) so_far

pub returns : goal.returns
returns c =
    let so_far = rw c.if-is_escaped-2.false at c.loop-byte.invariant in
    unescaped_ends c.args.text.now c.loop-byte.bytes c.loop-byte.byte-index _ (omega arith) so_far
