use Rattle.std.proofs.Common.{inl}
use Rattle.gt_tables.proofs.Keeping.{put-known, put-kept}
use Rattle.gt_tables.proofs.PartCounts.{put-stays}
use Rattle.gt_tables.proofs.parts.Parts.know.Goals as goal

pub returns-in_ok-insert-in-Some-clause-known : goal.returns-in_ok-insert-in-Some-clause-known
returns-in_ok-insert-in-Some-clause-known c =
    put-known c.in-Some.part c.args.part c.args.walk c.args.self.now.known c.insert.new.self c.in-Some.is c.in_ok-insert-in-Some.ensures.updates.0

pub returns-in-None-clause-known : goal.returns-in-None-clause-known
returns-in-None-clause-known c q n there = inl there

pub returns-in_ok-insert-in-Some-clause-kept : goal.returns-in_ok-insert-in-Some-clause-kept
returns-in_ok-insert-in-Some-clause-kept c =
    put-kept c.in-Some.part c.args.part c.args.walk c.args.self.now.known c.insert.new.self c.in-Some.is c.in_ok-insert-in-Some.ensures.updates.0

pub returns-in_ok-insert-in-Some-clause-stays : goal.returns-in_ok-insert-in-Some-clause-stays
returns-in_ok-insert-in-Some-clause-stays c =
    put-stays c.in-Some.part c.args.part c.args.walk c.args.self.now (record { walks = c.args.self.now.walks; known = c.insert.new.self; cases = c.args.self.now.cases }) c.in-Some.is c.in_ok-insert-in-Some.ensures.updates.0
