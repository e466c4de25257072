use Rattle.std.proofs.Common.{◌+◌, arith}
use Rattle.gt_fit.proofs.Endings.{equals, ending-more, ending-here, ending-never}
use Rattle.gt_fit.proofs.naming.ends_in_its_zero.Goals as goal

pub loop-i-preserved : goal.loop-i-preserved
loop-i-preserved g c = λ b got kind.
    ending-more (g.N.BlockNames.blocks c.args.names.now) c.args.addr b got kind c.loop-i.i c.byte.result (c.byte.ensures.byte b got kind) c.if-byte-eq0.false (c.loop-i.invariant b got kind)

pub returns-then-byte-eq0 : goal.returns-then-byte-eq0
returns-then-byte-eq0 g c =
    let t = c.requires.there in
    ending-here (g.N.BlockNames.blocks c.args.names.now) c.args.addr t.0 t.1 t.2 c.loop-i.i c.byte.result (c.byte.ensures.byte t.0 t.1 t.2) c.args.n _ c.if-byte-eq0.true t.3 (c.loop-i.invariant t.0 t.1 t.2) (equals (c.loop-i.i + 1) c.args.n)

pub returns : goal.returns
returns g c =
    let t = c.requires.there in
    ending-never (g.N.BlockNames.blocks c.args.names.now) c.args.addr t.0 t.1 t.2 c.loop-i.i (omega (arith, t.3)) (c.loop-i.invariant t.0 t.1 t.2)
