use Rattle.std.proofs.Common.{sym, arith}
use Rattle.gt_parse.proofs.Depths.{depth_after-le, after_round_here, after_round_after, after_round_end}
use Rattle.gt_parse.proofs.typedefs.after_round.Goals as goal
use Rattle.gt_parse.proofs.typedefs.after_round.Goals.{else-depth-eq0-via-then-depth-eq0+else-opens_round, else-depth-eq0-via-else-depth-eq0}

pub returns-then-opens_round : goal.returns-then-opens_round
returns-then-opens_round c =
    after_round_here c.args.tokens.now c.loop-at.depth c.loop-at.at c.index-tokens-at.result (omega arith) c.index-tokens-at.is _ c.loop-at.invariant.so_far (omega arith) (sym c.if-opens_round.ensures)

pub loop-at-preserved : goal.loop-at-preserved
loop-at-preserved c =
    rw c.depth_after-depth.ensures
    record {
      few = omega (arith, depth_after-le c.loop-at.depth c.index-tokens-at.result, c.loop-at.invariant.few);
      so_far =
          after_round_after c.args.tokens.now c.loop-at.depth c.loop-at.at c.index-tokens-at.result (omega arith) c.index-tokens-at.is _ c.loop-at.invariant.so_far
          (elim c.else-depth-eq0.branch [
            | else-depth-eq0-via-then-depth-eq0+else-opens_round w ↦ λ z. sym w.if-opens_round.ensures
            | else-depth-eq0-via-else-depth-eq0 w ↦ λ z. absurd (w.if-depth-eq0.false z)
          ]);
    }

pub returns : goal.returns
returns c = after_round_end c.args.tokens.now c.loop-at.depth c.loop-at.at (omega arith) _ c.loop-at.invariant.so_far
