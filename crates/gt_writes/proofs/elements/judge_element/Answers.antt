use Rattle.gt_writes.proofs.elements.judge_element.Goals as goal

pub judge_found-requires-clause-place : goal.judge_found-requires-clause-place
judge_found-requires-clause-place c = c.requires.found c.in-Some.there c.in-Some.is

pub judge_found-requires-clause-target : goal.judge_found-requires-clause-target
judge_found-requires-clause-target c = c.requires.target c.in-Some.there c.in-Some.is
