use Rattle.std.proofs.Common.{◌≡◌, length, sym, arith}
use Rattle.gt_parse.proofs.Depths.{depth_after-le, enumerators_here, enumerators_after, enumerators_end}
use Rattle.gt_parse.proofs.enums.enumerators.Goals as goal
use Rattle.gt_parse.proofs.enums.enumerators.Goals.{else-depth-eq0-via-then-depth-eq0+else-is_comma, else-depth-eq0-via-else-depth-eq0}

pub loop-at-preserved-then-is_comma : goal.loop-at-preserved-then-is_comma
loop-at-preserved-then-is_comma c =
    rw c.in_ok-push.ensures.added
    record {
      few = omega (arith, c.loop-at.invariant.few);
      begun = omega arith;
      so_far =
          enumerators_here c.args.body.now c.loop-at.depth c.loop-at.at c.index-body-at.result (omega arith) c.index-body-at.is c.loop-at.start c.loop-at.found _ c.loop-at.invariant.begun c.loop-at.invariant.so_far
          c.in_ok-enumerator.field-0 (omega arith) (sym c.if-is_comma.ensures) c.in_ok-enumerator.ensures;
    }

pub loop-at-preserved : goal.loop-at-preserved
loop-at-preserved c =
    rw c.depth_after-depth.ensures
    record {
      few = omega (arith, depth_after-le c.loop-at.depth c.index-body-at.result, c.loop-at.invariant.few);
      begun = omega (arith, c.loop-at.invariant.begun);
      so_far =
          enumerators_after c.args.body.now c.loop-at.depth c.loop-at.at c.index-body-at.result (omega arith) c.index-body-at.is c.loop-at.start c.loop-at.found _ c.loop-at.invariant.begun c.loop-at.invariant.so_far
          (elim c.else-depth-eq0.branch [
            | else-depth-eq0-via-then-depth-eq0+else-is_comma w ↦ λ z. sym w.if-is_comma.ensures
            | else-depth-eq0-via-else-depth-eq0 w ↦ λ z. absurd (w.if-depth-eq0.false z)
          ]);
    }

pub returns : goal.returns
returns c =
    let at : c.loop-at.at ≡ length c.args.body.now = omega arith in
    let so_far = rw at at c.loop-at.invariant.so_far in
    rw c.in_ok-push-2.ensures.added (enumerators_end c.args.body.now c.loop-at.depth (length c.args.body.now) (omega arith) _ c.in_ok-enumerator-2.field-0 c.loop-at.found _ so_far c.in_ok-enumerator-2.ensures)
