use Rattle.std.proofs.Common.{sym, arith}
use Rattle.gt_marked.proofs.Insides.{depth_past-le, inside_more, inside_read, inside_end}
use Rattle.gt_marked.proofs.groups.inside.Goals as goal

pub returns-in_default : goal.returns-in_default
returns-in_default c =
    inside_read c.args.tokens.now c.loop-at.depth c.loop-at.at c.index-tokens-at.result _ (omega arith) c.index-tokens-at.is c.loop-at.invariant.so_far (sym c.in_default.ensures)

pub loop-at-preserved : goal.loop-at-preserved
loop-at-preserved c = record {
  few = let le = depth_past-le c.loop-at.depth c.index-tokens-at.result c.in-Some.next (sym c.in-Some.ensures) in omega (arith, le, c.loop-at.invariant.few);
  so_far = inside_more c.args.tokens.now c.loop-at.depth c.loop-at.at c.index-tokens-at.result _ (omega arith) c.index-tokens-at.is c.loop-at.invariant.so_far c.in-Some.next (sym c.in-Some.ensures);
}

pub returns : goal.returns
returns c = inside_end c.args.tokens.now _ c.loop-at.depth c.loop-at.at _ (omega arith) c.loop-at.invariant.so_far
