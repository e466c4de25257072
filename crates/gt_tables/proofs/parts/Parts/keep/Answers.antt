use Rattle.std.proofs.Common.{arith}
use Rattle.gt_tables.proofs.Filing.{keeps-some, keeps-none}
use Rattle.gt_tables.proofs.parts.Parts.keep.Goals as goal

pub returns-then-len-gt1-clause-keeps : goal.returns-then-len-gt1-clause-keeps
returns-then-len-gt1-clause-keeps c =
    keeps-some c.args.first c.args.part c.args.rows.items c.args.self.now c.share.new.self c.know.new.self c.know.ensures.walks c.know.ensures.cases c.in_ok-walk.walk
    (omega (arith, c.len.ensures, c.if-len-gt1.true)) c.share.ensures.known
    c.in_ok-walk.ensures.shares c.in_ok-know.ensures.known c.in_ok-know.ensures.kept

pub returns-clause-keeps : goal.returns-clause-keeps
returns-clause-keeps c =
    keeps-none c.args.first c.args.part c.args.rows.items c.args.self.now c.know-2.new.self c.know-2.ensures.walks c.know-2.ensures.cases c.requires.turns c.in_ok-know-2.ensures.known
    c.in_ok-know-2.ensures.kept
