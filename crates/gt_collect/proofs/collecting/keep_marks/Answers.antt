use Rattle.gt_collect.proofs.collecting.keep_marks.Goals as goal

pub returns-clause-kept : goal.returns-clause-kept
returns-clause-kept c = λ heap is held. (c.mark_kept.result, c.mark_kept.ensures.kept heap is held)

pub returns-clause-count : goal.returns-clause-count
returns-clause-count c = λ heap is held. c.marked_len.ensures.len c.args.schema.now.program c.args.schema.now.layouts heap (c.mark_kept.ensures.heap heap is)
