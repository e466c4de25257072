use Rattle.std.proofs.Common.{◌≡◌, length}
use Rattle.gt_script.specs.Language.{is_comment_of}
use Rattle.gt_script.proofs.statements.is_comment.Given as goal

abbrev pub invariant-spaces : goal.invariant-spaces
invariant-spaces l = is_comment_of l.rest ≡ is_comment_of l.text

abbrev pub decreases-spaces : goal.decreases-spaces
decreases-spaces l = length l.rest
