use Rattle.std.proofs.Common.{sym, arith}
use Rattle.gt_parse.proofs.Depths.{depth_after-le, is_marked_here, is_marked_after, is_marked_end}
use Rattle.gt_parse.proofs.reading.is_marked.Goals as goal
use Rattle.gt_parse.proofs.reading.is_marked.Goals.{else-depth-eq0-via-then-depth-eq0+else-is_marker, else-depth-eq0-via-else-depth-eq0}

pub returns-then-is_marker : goal.returns-then-is_marker
returns-then-is_marker c =
    is_marked_here c.args.tokens.now c.loop-token.depth c.loop-token.token-index c.token-item.result (omega arith) c.token-item.is _ c.loop-token.invariant.so_far (omega arith) (sym c.if-is_marker.ensures)

pub loop-token-preserved : goal.loop-token-preserved
loop-token-preserved c =
    rw c.depth_after-depth.ensures
    record {
      few = omega (arith, depth_after-le c.loop-token.depth c.token-item.result, c.loop-token.invariant.few);
      so_far =
          is_marked_after c.args.tokens.now c.loop-token.depth c.loop-token.token-index c.token-item.result (omega arith) c.token-item.is _ c.loop-token.invariant.so_far
          (elim c.else-depth-eq0.branch [
            | else-depth-eq0-via-then-depth-eq0+else-is_marker w ↦ λ z. sym w.if-is_marker.ensures
            | else-depth-eq0-via-else-depth-eq0 w ↦ λ z. absurd (w.if-depth-eq0.false z)
          ]);
    }

pub returns : goal.returns
returns c = is_marked_end c.args.tokens.now c.loop-token.depth c.loop-token.token-index (omega arith) _ c.loop-token.invariant.so_far
