use Rattle.std.proofs.Common.{arith}
use Rattle.gt_parse.proofs.Depths.{depth_after-le, last_name_here, last_name_after, last_name_end}
use Rattle.gt_parse.proofs.typedefs.last_name.Goals as goal
use Rattle.gt_parse.proofs.typedefs.last_name.Goals.{then-depth-eq0+in_default, else-depth-eq0}

pub loop-token-preserved-in-Name : goal.loop-token-preserved-in-Name
loop-token-preserved-in-Name c = record {
  few = omega (arith, c.loop-token.invariant.few);
  so_far = last_name_here c.args.tokens.now c.loop-token.depth c.loop-token.token-index c.token-item.result (omega arith) c.token-item.is _ _ c.loop-token.invariant.so_far c.in-Name.spot (omega arith) c.in-Name.is;
}

pub loop-token-preserved : goal.loop-token-preserved
loop-token-preserved c =
    rw c.depth_after-depth.ensures
    record {
      few = omega (arith, depth_after-le c.loop-token.depth c.token-item.result, c.loop-token.invariant.few);
      so_far =
          last_name_after c.args.tokens.now c.loop-token.depth c.loop-token.token-index c.token-item.result (omega arith) c.token-item.is _ _ c.loop-token.invariant.so_far
          (elim c.if-depth-eq0.branch [
            | then-depth-eq0+in_default w ↦ λ z s e. w.in_default.not-Name s e
            | else-depth-eq0 w ↦ λ z s e. absurd (w.if-depth-eq0.false z)
          ]);
    }

pub returns : goal.returns
returns c = last_name_end c.args.tokens.now c.loop-token.depth c.loop-token.token-index (omega arith) _ _ c.loop-token.invariant.so_far
