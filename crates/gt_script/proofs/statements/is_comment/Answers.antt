use Rattle.gt_script.proofs.Comments.{comment_none, comment_space, comment_byte}
use Rattle.gt_script.proofs.statements.is_comment.Goals as goal

pub returns-in-None : goal.returns-in-None
returns-in-None c = comment_none c.spaces.rest.now c.args.text.now c.in-None.ensures c.spaces.invariant

pub spaces-preserved : goal.spaces-preserved
spaces-preserved c = comment_space c.spaces.rest.now c.in-Some-eq32-default.after.now c.args.text.now c.in-Some-eq32-default.field-0-0 c.in-Some-eq32-default.ensures c.in-Some-eq32-default.field-0-0-test c.spaces.invariant

pub returns-in-Some : goal.returns-in-Some
returns-in-Some c = comment_byte c.spaces.rest.now c.in-Some.field-0-1.now c.args.text.now c.in-Some.byte c.in-Some.ensures c.in-Some.byte-test.1 c.spaces.invariant
